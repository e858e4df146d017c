-- The changes of each happening.
use Rattle.std.proofs.Common.{◌≡◌, ℕ, Bool, true, false, List, Option, Some, refl, ap, arith}
use Rattle.std.proofs.lemmas.Bool.Decides.{nat_tests}
use Rattle.std.specs.Prelude.{◌&&◌, nat_le, nat_lt, if◌then◌else◌}
use Rattle.sg_changes.specs.Change.{applied_all}
use Rattle.sg_store.specs.Disk.{max_capacity}
use Rattle.sg_target.specs.Armed.{Armed}
use Rattle.sg_target.specs.Happenings.{grown}
use Rattle.sg_target.specs.State.{State}
use Rattle.sg_target.specs.declared.happening.Happening.TheVariants.{Power, LogicalUnitReset}
use Rattle.sg_target.specs.declared.happening.Happening.TheVariants.{TargetReset, NexusLoss}
use Rattle.sg_target.specs.declared.happening.Happening.TheVariants.{Establish, Grow}
use Rattle.sg_target.specs.declared.happening.Happening.TheVariants.{Arm, Disarm, DisarmAll}
use Rattle.sg_units.specs.PowerOn.{after_power_on}
use Rattle.sg_units.specs.declared.registrations.Registration.{Registration}
use Rattle.sg_units.specs.declared.reservation.Reservation.{Reservation}
use Rattle.sg_units.specs.declared.reservation_state.ReservationState.{ReservationState}
use Rattle.sg_kept.specs.Changes.{growth_changes}
use Rattle.sg_kept.specs.Kept.{kept}
use Rattle.sg_kept.specs.Laws.{HappeningsMakeTheirChanges}
use Rattle.sg_kept.proofs.AppliedLemmas.{reservations}

-- a second power cycle leaves the reservations
left-twice : (rs : List Registration) (held : Option Reservation) (generation : ℕ) (persists : Bool)
    → after_power_on (reservations rs held generation persists)
    ≡ after_power_on (after_power_on (reservations rs held generation persists))
left-twice rs held generation true = refl
left-twice rs held generation false = refl

twice : (r : ReservationState) → after_power_on r ≡ after_power_on (after_power_on r)
twice r = left-twice r.registrations r.reservation r.generation r.persists_through_power_loss

module _ (disk : Armed) where
  -- what a growth promises, if this is the state after it
  abbrev GrowsTo : State → Type 0
  GrowsTo state = let after : Armed = record disk { state = state } in
      applied_all (kept disk) (growth_changes disk after) ≡ Some (kept after)

  stays : GrowsTo disk.state
  stays = grind (arith, nat_tests)

  grows : (capacity : ℕ) → nat_lt disk.state.disk.capacity capacity ≡ true
      → nat_le capacity max_capacity ≡ true → GrowsTo (grown capacity disk.state)
  grows capacity more fits = grind (arith, nat_tests)

pub happenings-make : HappeningsMakeTheirChanges
happenings-make disk Power =
    ap (λ (r : ReservationState). Some (record (kept disk) { reservations = r }))
    (twice disk.state.reservations)
happenings-make disk LogicalUnitReset = refl
happenings-make disk TargetReset = refl
happenings-make disk (NexusLoss initiator) = refl
happenings-make disk (Establish condition initiators) = refl
happenings-make disk (Grow capacity) = by_tests (nat_lt disk.state.disk.capacity capacity)
    (nat_le capacity max_capacity) refl refl
  where
    by_tests : (a b : Bool) → nat_lt disk.state.disk.capacity capacity ≡ a
        → nat_le capacity max_capacity ≡ b
        → GrowsTo disk (if a && b then grown capacity disk.state else disk.state)
    by_tests true true e f = grows disk capacity e f
    by_tests true false e f = stays disk
    by_tests false b e f = stays disk
happenings-make disk (Arm fault) = refl
happenings-make disk (Disarm number) = refl
happenings-make disk DisarmAll = refl
