-- The two cases of a growth.
use Rattle.std.proofs.Common.{◌≡◌, ◌≤◌, ℕ, Bool, true, false, refl, arith}
use Rattle.std.proofs.lemmas.Bool.Decides.{nat_tests}
use Rattle.std.specs.Prelude.{◌&&◌, nat_le, nat_lt, if◌then◌else◌}
use Rattle.sg_store.specs.Disk.{max_capacity}
use Rattle.sg_target.specs.Happenings.{after_growth, grown}
use Rattle.sg_target.specs.State.{State}

-- what holds with the capacity that is asked for and with the present one holds after a growth
pub by-growth : (P : State → Type 0) (capacity : ℕ) (state : State)
    → (state.disk.capacity ≤ capacity → capacity ≤ max_capacity → P (grown capacity state)) → P state
    → P (after_growth capacity state)
by-growth P capacity state more same =
    by_test (nat_lt state.disk.capacity capacity) (nat_le capacity max_capacity) refl refl
  where
    by_test : (a b : Bool) → nat_lt state.disk.capacity capacity ≡ a
        → nat_le capacity max_capacity ≡ b → P (if a && b then grown capacity state else state)
    by_test true true e f = more (grind (arith, nat_tests)) (grind (arith, nat_tests))
    by_test true false e f = same
    by_test false b e f = same
