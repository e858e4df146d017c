-- An initiator that is not registered is refused a REGISTER with another key than zero.
use Rattle.std.proofs.Common.{◌≡◌, ◌==◌, ℕ, Bool, true, false, not, ◌&&◌, List, Some}
use Rattle.std.proofs.Common.{Result, Ok, Err, refl, sym, ap, ◌∙◌, subst}
use Rattle.std.specs.Result.{result_map_both}
use Rattle.std.proofs.lemmas.Bool.{eqb-true, false≢true, or_from}
use Rattle.std.proofs.lemmas.Option.{cond_some}
use Rattle.sg_wire.specs.FirstBytes.{first_bytes}
use Rattle.sg_wire.specs.OutList.{list_of as out_list_of}
use Rattle.sg_wire.specs.declared.command.CdbFault.{CdbFault}
use Rattle.sg_wire.specs.declared.command.Command.{Command}
use Rattle.sg_wire.specs.declared.command.Command.TheVariants.{PersistentReserveOut}
use Rattle.sg_wire.specs.declared.command.out_action.OutAction.{OutAction}
use Rattle.sg_wire.specs.declared.command.out_action.OutAction.TheVariants.{Register}
use Rattle.sg_wire.specs.declared.out_list.OutList.{OutList}
use Rattle.sg_units.specs.Registrations.{is_registered, is_registered_under}
use Rattle.sg_units.specs.ReserveOut.{Outcome, accepts_key, outcome}
use Rattle.sg_units.specs.declared.reservation_change.ReservationChange.{ReservationChange}
use Rattle.sg_units.proofs.OutcomeLemmas.{EffectIs, if-accepted}
use Rattle.sg_target.specs.Demands.{demands}
use Rattle.sg_target.specs.Refusal.{when_sound}
use Rattle.sg_target.specs.ReservationCommands.{changing_reservations, out_refusal}
use Rattle.sg_target.specs.ReservationCommands.{has_list_length, is_register, reservation_change}
use Rattle.sg_target.specs.State.{State, config_of}
use Rattle.sg_target.specs.Step.{Step, outcome as step_outcome}
use Rattle.sg_target.specs.Charge.{step_by}
use Rattle.sg_target.specs.declared.operation.Operation.{Operation}
use Rattle.sg_target.specs.declared.operation.Operation.TheVariants.{ChangeReservations}
use Rattle.sg_target.specs.declared.refusal.Reason.TheVariants.{ParameterListLengthError}
use Rattle.sg_target.specs.declared.refusal.Refusal.TheVariants.{CheckCondition}
use Rattle.sg_target.specs.declared.reply.Status.TheVariants.{Good}
use Rattle.sg_target.proofs.LiftLemmas.{lifted, not_good}
use Rattle.sg_fencing.specs.Registrants.{rules_for}
use Rattle.sg_fencing.specs.Registrants.{OldKeysAreRefused, is_registrant, list_of}
use Rattle.sg_fencing.proofs.OperationLemmas.{listed}
use Rattle.sg_fencing.proofs.MovedLemmas.{not-under}

not-both : (a b : Bool) → b ≡ false → (a && b) ≡ false
not-both true b h = h
not-both false b h = refl

not-zero : (key : ℕ) (b : Bool) → (key == 0) ≡ b → (key ≡ 0 → ⊥) → (key == 0) ≡ false
not-zero key true e h = absurd (h (eqb-true key 0 e))
not-zero key false e h = e

the-register : (action : OutAction) → is_register action ≡ true → Register ≡ action
the-register Register h = refl
the-register _ h = absurd (false≢true h)

module _ (state : State) (j : ℕ) (unknown : is_registrant state j ≡ false) where
  abbrev Never : ReservationChange → Type 0
  Never change = ⊥

  abbrev NotGood : Step → Type 0
  NotGood done = done.answer.status ≡ Good → ⊥

  not-accepted : (key : ℕ) → (key ≡ 0 → ⊥)
      → accepts_key state.reservations.registrations j Register key ≡ false
  not-accepted key h =
      let rs = state.reservations.registrations in
      or_from (is_registered_under rs j key) (not (is_registered rs j) && key == 0)
      (not-under rs j key unknown)
      (not-both (not (is_registered rs j)) (key == 0) (not-zero key (key == 0) refl h))

  by-outcome : (o : Outcome) → EffectIs Never o
      → NotGood (step_outcome state j (when_sound (result_map_both (λ change. change) out_refusal o)
      (changing_reservations state j)))
  by-outcome (Ok change) k good = k.shown change refl
  by-outcome (Err fault) k good = not_good state j (out_refusal fault) good

  by-list : (scope_type : ℕ) (list : OutList) → (list.reservation_key ≡ 0 → ⊥)
      → NotGood (step_by state j (ChangeReservations Register scope_type list))
  unfolding reservation_change
  by-list scope_type list h =
      by-outcome (outcome (rules_for state) state.reservations j Register scope_type list)
      (if-accepted Never (rules_for state) state.reservations j Register scope_type list
      (λ accepted. absurd (false≢true (sym (not-accepted list.reservation_key h) ∙ accepted))))

  by-command : (command : Command) (data_out : List ℕ) (operation : Operation) (list : OutList)
      → (demands (config_of state) command data_out).operation ≡ Ok operation
      → list_of is_register (Ok command) data_out ≡ Some list → (list.reservation_key ≡ 0 → ⊥)
      → NotGood (step_by state j operation)
  by-command (PersistentReserveOut c) data_out operation list e h other =
      let bytes = first_bytes c.list_length data_out in
      let parts = cond_some (is_register c.action) (out_list_of c.action bytes) list h in
      let asked = listed c.action c.scope_type (has_list_length (rules_for state) c.action bytes)
      (out_list_of c.action bytes) (CheckCondition ParameterListLengthError) operation e in
      subst (λ (o : Operation). NotGood (step_by state j o))
      (ap (λ (a : OutAction). ChangeReservations a c.scope_type (out_list_of c.action bytes))
      (the-register c.action parts.0)
      ∙ asked)
      (by-list c.scope_type (out_list_of c.action bytes)
      (λ none. other (ap (λ (l : OutList). l.reservation_key) (sym parts.1) ∙ none)))
  by-command _ data_out operation list e h other = cc

pub old-keys-refused : OldKeysAreRefused
old-keys-refused state j cdb data_out list unknown sent other =
    lifted state j cdb data_out (NotGood state j unknown) (not_good state j)
    (λ operation k. by-command state j unknown k.command data_out operation list k.operation_is
    (sym (ap (λ (p : Result Command CdbFault). list_of is_register p data_out) k.command_is) ∙ sent) other)
