-- A command ends with the same answer in two states that are the same except for unit attentions of
-- others.
use Rattle.std.proofs.Common.{◌≡◌, ℕ, false, List, refl}
use Rattle.sg_units.specs.Attentions.{Pending, pending_for}
use Rattle.sg_units.specs.ReserveOut.{raised_by}
use Rattle.sg_units.specs.declared.reservation_change.ReservationChange.{ReservationChange}
use Rattle.sg_units.specs.declared.reservation_state.ReservationState.{ReservationState}
use Rattle.sg_target.specs.ReservationCommands.{changing_reservations, reservation_change}
use Rattle.sg_target.specs.State.{State}
use Rattle.sg_target.specs.Step.{Step, step}
use Rattle.sg_target.specs.Charge.{step_before_alert}
use Rattle.sg_target.specs.declared.operation.Operation.{Operation}
use Rattle.sg_target.specs.declared.operation.Operation.TheVariants.{ChangeReservations}
use Rattle.sg_target.specs.declared.operation.Operation.TheVariants.{ReturnReservations}
use Rattle.sg_fencing.proofs.AlikeLemmas.{EffectsAgree, StepsAgree, checks-same, operation-agrees}
use Rattle.sg_fencing.proofs.AlikeLemmas.{told-agree}
use Rattle.sg_fencing.proofs.AlikeLemmas.{parse-same, raised-equal, refused-agree, reporting-agree}
use Rattle.sg_fencing.proofs.AlikeLemmas.{sound-agree}
use Rattle.sg_target.proofs.LiftLemmas.{lifted-both}

abbrev pub with_attentions : State → Pending → State
with_attentions state attentions = record state { attentions = attentions }

abbrev pub AreSame : ReservationState → ReservationState → Type 0
AreSame a b = a ≡ b

module _ (s : State) (q : Pending) (i : ℕ) (own : pending_for s.attentions i ≡ pending_for q i) where
  abbrev t : State
  t = with_attentions s q

  abbrev Agree : Step → Step → Type 0
  Agree first second = StepsAgree AreSame false s.attentions q first second

  change-agrees : (change : ReservationChange)
      → EffectsAgree AreSame false s.attentions q (changing_reservations s i change)
      (changing_reservations t i change)
  change-agrees change = record {
    rest = refl;
    queues = raised-equal s.attentions q (raised_by s.reservations.registrations i change);
    reservations = refl;
    answer = λ _. refl;
    found = refl;
  }

  by-operation : (operation : Operation)
      → Agree (step_before_alert s i operation) (step_before_alert t i operation)
  unfolding reservation_change
  by-operation (ChangeReservations action scope_type list) =
      sound-agree AreSame s q s.reservations i own refl (reservation_change s i action scope_type list)
      (changing_reservations s i) (changing_reservations t i) change-agrees
  by-operation (ReturnReservations action n) =
      reporting-agree AreSame s q s.reservations i own refl false action n (λ _. refl)
  by-operation operation = operation-agrees AreSame s q s.reservations i own refl operation refl

  pub steps-agree : (cdb data_out : List ℕ) → Agree (step s i cdb data_out) (step t i cdb data_out)
  steps-agree cdb data_out =
      lifted-both s t i cdb data_out refl
      (checks-same AreSame s q s.reservations i own refl (λ class. refl) cdb)
      (parse-same AreSame s q s.reservations i own refl data_out) Agree
      (refused-agree AreSame s q s.reservations i own refl false) (λ operation k.
      told-agree AreSame s q s.reservations i own refl false (step_before_alert s i operation)
      (step_before_alert t i operation) (by-operation operation))
