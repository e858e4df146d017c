-- Nothing is left of the armed faults for an initiator.
use Rattle.std.proofs.Common.{◌≡◌, ℕ, zero, suc, Bool, true, false, not, ◌&&◌, List, [], ◌∷◌}
use Rattle.std.proofs.Common.{Option, Some, None, refl, ap, get_or, set, arith}
use Rattle.std.proofs.lemmas.Bool.Decides.{nat_tests}
use Rattle.std.proofs.lemmas.Bool.{and_right}
use Rattle.std.specs.Prelude.{◌==◌, ◌-◌, if◌then◌else◌, is_some, nat_lt, option_map}
use Rattle.std.specs.Option.{option_map_or}
use Rattle.sg_faults.specs.Arming.{count_for, counted, is_due, is_spent, next_count, spent}
use Rattle.sg_faults.specs.Faults.{met, struck_in}
use Rattle.sg_faults.specs.Laws.{Quiets, has_nothing_left, is_spared}
use Rattle.sg_faults.specs.Meeting.{Seen, meets}
use Rattle.sg_faults.specs.Places.{At}
use Rattle.sg_faults.specs.declared.fault.ArmedFault.{ArmedFault}
use Rattle.sg_faults.specs.declared.fault.Count.{Count}
use Rattle.sg_faults.proofs.QuietLemmas.{all-quiet, not-struck}

-- ---- A count of which nothing is left

is-undue : (count : Count) → is_spent count ≡ true → is_due count ≡ false
is-undue count e = and_right (count.skip == 0) (not (is_spent count)) (ap not e)

fewer-spent : (times : Option ℕ) → option_map_or (λ n. n == 0) times false ≡ true
    → option_map_or (λ n. n == 0) (option_map (λ n. n - 1) times) false ≡ true
fewer-spent (Some n) e = grind (arith, nat_tests)
fewer-spent None e = cc

next-spent : (count : Count) → is_spent count ≡ true → is_spent (next_count count) ≡ true
next-spent count e = by-skip (nat_lt 0 count.skip)
  where
    by-skip : (waits : Bool) → is_spent (if waits then record count { skip = count.skip - 1 }
        else record count { times = option_map (λ times. times - 1) count.times }) ≡ true
    by-skip true = e
    by-skip false = fewer-spent count.times e

set-spent : (counts : List Count) (i : ℕ) (count : Count) → is_spent count ≡ true
    → is_spent (get_or (set counts i count) i spent) ≡ true
set-spent [] zero count e = refl
set-spent [] (suc i) count e = refl
set-spent (first ∷ counts) zero count e = e
set-spent (first ∷ counts) (suc i) count e = set-spent counts i count e

-- ---- A fault

module _ {A : Type 0} (at : At A) (command : Seen) where
  slot-idle : (slot : Option ArmedFault) → has_nothing_left command.initiator slot ≡ true
      → struck_in at command slot ≡ None
  slot-idle None e = refl
  slot-idle (Some a) e =
      not-struck (at a.fault.outcome) (meets command a.fault && is_due (count_for a command.initiator)) _
      (and_right (meets command a.fault) (is_due (count_for a command.initiator))
      (is-undue (count_for a command.initiator) e))

  met-spent : (a : ArmedFault) → is_spent (count_for a command.initiator) ≡ true
      → is_spent (count_for (met at command a) command.initiator) ≡ true
  met-spent a e = by-test (is_some (at a.fault.outcome) && meets command a.fault)
    where
      by-test : (hit : Bool)
          → is_spent (count_for (if hit then counted a command.initiator else a) command.initiator)
          ≡ true
      by-test true =
          set-spent a.counts command.initiator (next_count (count_for a command.initiator))
          (next-spent (count_for a command.initiator) e)
      by-test false = e

pub spared : {A : Type 0} (at : At A)
    → Quiets (λ command faults. is_spared faults command.initiator) at
spared at command faults e =
    all-quiet command (has_nothing_left command.initiator) refl at (slot-idle at command)
    (met-spent at command) faults e
