-- If an initiator becomes registered, the group sees its registration and no other change.
use Rattle.std.proofs.Common.{◌≡◌, ◌==◌, ℕ, Bool, true, false, not, List, Option, Some, inr}
use Rattle.std.proofs.Common.{Result, Ok, Err, refl, sym, ap, ◌∙◌, subst}
use Rattle.std.specs.Prelude.{if◌then◌else◌, unwrap_or}
use Rattle.std.specs.Result.{result_map_both}
use Rattle.std.proofs.lemmas.Bool.{false≢true, ne_eqb, or_parts}
use Rattle.std.proofs.lemmas.Option.{cond_some}
use Rattle.sg_wire.specs.FirstBytes.{first_bytes}
use Rattle.sg_wire.specs.CdbDecoding.{command_of}
use Rattle.sg_wire.specs.OutList.{list_of as out_list_of}
use Rattle.sg_wire.specs.declared.command.CdbFault.{CdbFault}
use Rattle.sg_wire.specs.declared.command.Command.{Command}
use Rattle.sg_wire.specs.declared.command.Command.TheVariants.{PersistentReserveOut}
use Rattle.sg_wire.specs.declared.command.out_action.OutAction.{OutAction}
use Rattle.sg_wire.specs.declared.command.out_action.OutAction.TheVariants.{Register}
use Rattle.sg_wire.specs.declared.command.out_action.OutAction.TheVariants.{RegisterAndIgnoreExistingKey}
use Rattle.sg_wire.specs.declared.command.out_action.OutAction.TheVariants.{RegisterAndMove}
use Rattle.sg_wire.specs.declared.out_list.OutList.{OutList}
use Rattle.sg_wire.specs.declared.profile.Rules.{Rules}
use Rattle.sg_units.specs.Registrations.{is_registered, with_registration}
use Rattle.sg_units.specs.ReservationType.{type_of}
use Rattle.sg_units.specs.ReserveOut.{accepts_key}
use Rattle.sg_units.specs.ReserveOut.{Outcome, action_outcome, generation_after, outcome}
use Rattle.sg_units.specs.ReserveOut.{register_cases, register_together_cases, registered_together}
use Rattle.sg_units.specs.ReserveOut.{registration_by}
use Rattle.sg_units.specs.UnsupportedFlags.{has_unsupported_flag}
use Rattle.sg_units.specs.declared.registrations.Registration.{Registration}
use Rattle.sg_units.specs.declared.reservation_change.ReservationChange.{ReservationChange}
use Rattle.sg_units.specs.declared.reservation_state.ReservationState.{ReservationState}
use Rattle.sg_units.specs.declared.types.ReservationType.{ReservationType}
use Rattle.sg_units.proofs.OutcomeLemmas.{EffectIs, FirstIs, and_false, case_or, choice, effective}
use Rattle.sg_units.proofs.OutcomeLemmas.{if-supported, last_case, refused}
use Rattle.sg_target.specs.Demands.{demands}
use Rattle.sg_target.specs.Refusal.{when_sound}
use Rattle.sg_target.specs.ReservationCommands.{changing_reservations, out_refusal}
use Rattle.sg_target.specs.ReservationCommands.{has_list_length, reservation_change}
use Rattle.sg_target.specs.State.{IsWithinLimits, State, config_of}
use Rattle.sg_target.specs.Step.{Step, outcome as step_outcome, refused as refused_step, step}
use Rattle.sg_target.specs.Charge.{step_by}
use Rattle.sg_target.specs.declared.operation.Operation.{Operation}
use Rattle.sg_target.specs.declared.operation.Operation.TheVariants.{ChangeReservations}
use Rattle.sg_target.specs.declared.refusal.Reason.TheVariants.{ParameterListLengthError}
use Rattle.sg_target.specs.declared.refusal.Reason.TheVariants.{UnitAttention as Attention}
use Rattle.sg_target.specs.declared.refusal.Refusal.{Refusal}
use Rattle.sg_target.specs.declared.refusal.Refusal.TheVariants.{CheckCondition}
use Rattle.sg_fencing.specs.Group.{IsSeen, registered_anew}
use Rattle.sg_fencing.specs.Registrants.{is_registering, is_registrant, registering_list, rules_for}
use Rattle.sg_target.proofs.LiftLemmas.{lifted}
use Rattle.sg_fencing.proofs.OperationLemmas.{listed}
use Rattle.sg_fencing.proofs.OthersLemmas.{changed-view}
use Rattle.sg_fencing.proofs.RegistrationLemmas.{not_so, outcome-leaves}
use Rattle.sg_fencing.proofs.MovedLemmas.{not-under}
use Rattle.sg_target.proofs.AlertLemmas.{by-no-alert}
use Rattle.sg_fencing.proofs.NoAlertLemmas.{reserving-disk}

-- ---- The outcome

-- there is one registration more, PRGENERATION is incremented, and APTPL becomes the list's value
pub record Adds (state : ReservationState) (j : ℕ) (list : OutList) (change : ReservationChange)
    : Type 0 where
  pub registrations : change.registrations ≡ registered_anew state.registrations j list
  pub reservation : change.reservation ≡ state.reservation
  pub increments : change.increments_generation ≡ true
  pub aptpl : change.aptpl ≡ Some list.aptpl
  pub key : (list.service_action_key == 0) ≡ false

abbrev anew : List Registration → (initiator : ℕ) → OutList → (together : Bool) → List Registration
anew registrations initiator list together =
    if together then registered_together registrations initiator list
    else with_registration registrations (registration_by list initiator)

module _ (rules : Rules) (state : ReservationState) (j : ℕ)
    (unknown : is_registered state.registrations j ≡ false) (list : OutList) where
  -- j's command does so if j is registered afterwards
  abbrev pub AddsIf : ReservationChange → Type 0
  AddsIf change = is_registered change.registrations j ≡ true → Adds state j list change

  register-adds : list.spec_i_pt ≡ false → FirstIs (EffectIs AddsIf) (register_cases rules state j list)
  unfolding register_cases
  register-adds alone =
      case_or (EffectIs AddsIf) _ _
      (λ _. effective AddsIf _ (λ known. absurd (false≢true (sym unknown ∙ known))))
      (λ keyed. case_or (EffectIs AddsIf) _ _ (λ _. refused AddsIf _)
      (λ _. case_or (EffectIs AddsIf) _ _
      (λ _. effective AddsIf _ (λ _. record {
        registrations = sym (ap (anew state.registrations j list) alone);
        reservation = refl;
        increments = refl;
        aptpl = refl;
        key = and_false (not (is_registered state.registrations j)) _ (ap not unknown) keyed;
      }))
      (λ known. absurd (not_so (is_registered state.registrations j) unknown known))))

  together-adds : list.spec_i_pt ≡ true
      → FirstIs (EffectIs AddsIf) (register_together_cases state j list)
  unfolding register_together_cases
  together-adds set =
      case_or (EffectIs AddsIf) _ _
      (λ _. effective AddsIf _ (λ known. absurd (false≢true (sym unknown ∙ known))))
      (λ keyed. case_or (EffectIs AddsIf) _ _ (λ _. refused AddsIf _)
      (λ _. case_or (EffectIs AddsIf) _ _ (λ _. refused AddsIf _)
      (λ _. case_or (EffectIs AddsIf) _ _ (λ _. refused AddsIf _)
      (λ _. last_case (EffectIs AddsIf) _ _ refl
      (effective AddsIf _ (λ _. record {
        registrations = sym (ap (anew state.registrations j list) set);
        reservation = refl;
        increments = refl;
        aptpl = refl;
        key = and_false (not (is_registered state.registrations j)) _ (ap not unknown) keyed;
      }))))))

  action-adds : (action : OutAction) (type : Option ReservationType) → is_registering action ≡ true
      → has_unsupported_flag rules action list ≡ false
      → accepts_key state.registrations j action list.reservation_key ≡ true
      → EffectIs AddsIf (action_outcome rules state j action type list)
  action-adds Register type h supported accepted =
      choice (EffectIs AddsIf) list.spec_i_pt _ _ (λ set. (together-adds set).first)
      (λ alone. (register-adds alone).first)
  action-adds RegisterAndIgnoreExistingKey type h supported accepted =
      (register-adds (or_parts list.spec_i_pt _ supported).0).first
  action-adds RegisterAndMove type h supported accepted =
      absurd (false≢true
      (sym (not-under state.registrations j list.reservation_key unknown) ∙ accepted))
  action-adds _ type h supported accepted = absurd (false≢true h)

  outcome-adds : (action : OutAction) (scope_type : ℕ) → is_registering action ≡ true
      → EffectIs AddsIf (outcome rules state j action scope_type list)
  outcome-adds action scope_type h =
      if-supported AddsIf rules state j action scope_type list
      (λ supported accepted. action-adds action (type_of scope_type) h supported accepted)

-- ---- The command

-- A fact about each refusal, and about each command that registers with a list, holds for the command
-- with that list.
module _ (state : State) (j : ℕ) (list : OutList) (P : Step → Type 0)
    (refusing : (refusal : Refusal) → P (refused_step state j refusal))
    (registering : (action : OutAction) (scope_type : ℕ) → is_registering action ≡ true
    → P (step_by state j (ChangeReservations action scope_type list))) where
  by-command : (command : Command) (data_out : List ℕ) (operation : Operation)
      → (demands (config_of state) command data_out).operation ≡ Ok operation
      → registering_list (Ok command) data_out ≡ Some list → P (step_by state j operation)
  by-command (PersistentReserveOut c) data_out operation e h =
      let bytes = first_bytes c.list_length data_out in
      let parts = cond_some (is_registering c.action) (out_list_of c.action bytes) list h in
      let asked = listed c.action c.scope_type (has_list_length (rules_for state) c.action bytes)
      (out_list_of c.action bytes) (CheckCondition ParameterListLengthError) operation e in
      subst (λ (o : Operation). P (step_by state j o))
      (ap (λ (l : OutList). ChangeReservations c.action c.scope_type l) (sym parts.1) ∙ asked)
      (registering c.action c.scope_type parts.0)
  by-command _ data_out operation e h = cc

  pub with-list : (cdb data_out : List ℕ) → registering_list (command_of cdb) data_out ≡ Some list
      → P (step state j cdb data_out)
  with-list cdb data_out h =
      lifted state j cdb data_out P refusing
      (λ operation k. by-command k.command data_out operation k.operation_is
      (sym (ap (λ (p : Result Command CdbFault). registering_list p data_out) k.command_is) ∙ h))

-- A fact that holds after each change that adds the registration of j holds after j's command, if j
-- is registered then.
module _ (state : State) (j : ℕ) (unknown : is_registrant state j ≡ false) (list : OutList)
    (Follows : State → Type 0) where
  abbrev IfKnown : State → Type 0
  IfKnown after = is_registrant after j ≡ true → Follows after

  after-refusal : (refusal : Refusal) → IfKnown (refused_step state j refusal).state
  after-refusal (CheckCondition (Attention condition)) known = absurd (false≢true (sym unknown ∙ known))
  after-refusal _ known = absurd (false≢true (sym unknown ∙ known))

  abbrev FollowsFrom : Outcome → Type 0
  FollowsFrom o =
      (change : ReservationChange) → o ≡ Ok change → Adds state.reservations j list change
      → Follows (changing_reservations state j change).after

  after-outcome : (o : Outcome) → EffectIs (AddsIf (rules_for state) state.reservations j unknown list) o
      → FollowsFrom o
      → IfKnown (step_outcome state j (when_sound (result_map_both (λ change. change) out_refusal o)
      (changing_reservations state j))).state
  after-outcome (Ok change) adds f = λ known. f change refl (adds.shown change refl known)
  after-outcome (Err fault) adds f = after-refusal (out_refusal fault)

  module _ (follows : (action : OutAction) (scope_type : ℕ)
      → FollowsFrom (outcome (rules_for state) state.reservations j action scope_type list)) where
    after-registering : (action : OutAction) (scope_type : ℕ) → is_registering action ≡ true
        → IfKnown (step_by state j (ChangeReservations action scope_type list)).state
    unfolding reservation_change
    after-registering action scope_type h =
        let o = outcome (rules_for state) state.reservations j action scope_type list in
        by-no-alert IfKnown state j _ (reserving-disk state j o)
        (after-outcome o
        (outcome-adds (rules_for state) state.reservations j unknown list action scope_type h)
        (follows action scope_type))

    if-known : (cdb data_out : List ℕ) → registering_list (command_of cdb) data_out ≡ Some list
        → IfKnown (step state j cdb data_out).state
    if-known =
        with-list state j list (λ (done : Step). IfKnown done.state) after-refusal after-registering

module _ (state : State) (j : ℕ) (unknown : is_registrant state j ≡ false) (list : OutList) where
  -- it was not sent with the key zero
  pub key-sent : (cdb data_out : List ℕ) → registering_list (command_of cdb) data_out ≡ Some list
      → is_registrant (step state j cdb data_out).state j ≡ true
      → (list.service_action_key == 0) ≡ false
  key-sent =
      if-known state j unknown list (λ (after : State). (list.service_action_key == 0) ≡ false)
      (λ action scope_type change e h. h.key)

  module _ (w : IsWithinLimits state) where
    change-seen : (action : OutAction) (scope_type : ℕ) (change : ReservationChange)
        → outcome (rules_for state) state.reservations j action scope_type list ≡ Ok change
        → Adds state.reservations j list change
        → IsSeen state (changing_reservations state j change).after j list
    change-seen action scope_type change e h = record {
      group =
          λ d. record {
            disk = state.disk;
            modes = state.modes;
            stopped = state.stopped;
            registrations = h.registrations d;
            generation = generation_after (h.increments d) state.reservations.generation;
            reservation = h.reservation d;
            persists = unwrap_or (h.aptpl d) state.reservations.persists_through_power_loss;
          };
      others =
          λ i other spared.
          let left =
          (outcome-leaves (rules_for state) state.reservations i j (ne_eqb j i other) unknown action
          scope_type list).shown change e (λ _. inr spared) in
          changed-view state i j w change left.key left.reservation left.unraised;
    }

    pub newcomer-seen : (cdb data_out : List ℕ) → registering_list (command_of cdb) data_out ≡ Some list
        → is_registrant (step state j cdb data_out).state j ≡ true
        → IsSeen state (step state j cdb data_out).state j list
    newcomer-seen =
        if-known state j unknown list (λ (after : State). IsSeen state after j list) change-seen
