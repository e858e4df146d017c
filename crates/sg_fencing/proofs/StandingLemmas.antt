-- The effect of commands on registrations and reservation. Commands of others, except CLEAR and
-- PREEMPT, leave a reservation as it was.
use Rattle.std.proofs.Common.{◌≡◌, ℕ, Bool, true, false, not, List, ◌&&◌, ◌||◌}
use Rattle.std.proofs.Common.{Option, Some, None, Result, Ok, Err, refl, sym, ap, ◌∙◌, subst}
use Rattle.std.proofs.lemmas.Bool.{ne_eqb, not-true}
use Rattle.std.specs.Option.{option_map_or}
use Rattle.std.specs.Result.{result_map_both}
use Rattle.sg_wire.specs.CdbDecoding.{command_in, command_of}
use Rattle.sg_wire.specs.declared.command.CdbFault.{CdbFault}
use Rattle.sg_wire.specs.declared.command.Command.{Command}
use Rattle.sg_wire.specs.declared.command.Command.TheVariants.{PersistentReserveOut}
use Rattle.sg_wire.specs.declared.command.out_action.OutAction.{OutAction}
use Rattle.sg_units.specs.Laws.{ends_for_others}
use Rattle.sg_units.specs.Registrations.{is_registered}
use Rattle.sg_units.specs.Reservations.{has_type, holds}
use Rattle.sg_units.specs.ReserveOut.{Outcome, outcome}
use Rattle.sg_wire.specs.declared.out_list.OutList.{OutList}
use Rattle.sg_units.specs.declared.reservation.Reservation.{Reservation}
use Rattle.sg_units.specs.declared.reservation_change.ReservationChange.{ReservationChange}
use Rattle.sg_units.specs.declared.reservation_state.ReservationState.{ReservationState}
use Rattle.sg_units.specs.declared.types.ReservationType.TheVariants.{WriteExclusive, ExclusiveAccess}
use Rattle.sg_fencing.specs.Registrants.{held_by}
use Rattle.sg_fencing.proofs.ReserveOutLemmas.{IsHeld, alone_in, outcome_holds}
use Rattle.sg_units.proofs.OutcomeLemmas.{EffectIs}
use Rattle.sg_target.specs.Effect.{Effect, returning_up_to}
use Rattle.sg_target.specs.ModeCommands.{changing_modes, mode_parameters, selected_modes}
use Rattle.sg_target.specs.Refusal.{when_sound}
use Rattle.sg_target.specs.ReservationCommands.{changing_reservations, out_refusal}
use Rattle.sg_target.specs.ReservationCommands.{reservation_change}
use Rattle.sg_target.specs.Semantics.{effect_of}
use Rattle.sg_target.specs.State.{State, config_of, profile_of}
use Rattle.sg_target.specs.Step.{Step, outcome as step_outcome, refused, step}
use Rattle.sg_target.specs.declared.operation.Operation.{Operation}
use Rattle.sg_target.specs.declared.operation.Operation.TheVariants.{ReturnModes, ChangeModes}
use Rattle.sg_target.specs.declared.operation.Operation.TheVariants.{ChangeReservations}
use Rattle.sg_target.specs.declared.refusal.Reason.TheVariants.{UnitAttention as Attention}
use Rattle.sg_target.specs.declared.refusal.Refusal.{Refusal}
use Rattle.sg_target.specs.declared.refusal.Refusal.TheVariants.{CheckCondition}
use Rattle.sg_target.proofs.LiftLemmas.{Asked, lifted, outcome-by}
use Rattle.sg_fencing.specs.Fencing.{can_end_for_others, holds_alone}
use Rattle.sg_fencing.proofs.HolderLemmas.{HoldsAlone}
use Rattle.sg_fencing.proofs.OperationLemmas.{asked-fits, fits_list, is_of_list_kind}
use Rattle.sg_fencing.specs.Registrants.{rules_for}

-- Suppose that a fact holds of the reservations, and of them after each PERSISTENT RESERVE OUT of
-- some kind. Then it holds after each command, except PERSISTENT RESERVE OUT of another kind.
module _ (Stands : ReservationState → Type 0) (state : State) (j : ℕ)
    (same : Stands state.reservations) where
  abbrev pub EffectStands : Result Effect Refusal → Type 0
  EffectStands (Ok effect) = Stands effect.after.reservations
  EffectStands (Err refusal) = Unit {0}

  refused-stands : (refusal : Refusal) → Stands (refused state j refusal).state.reservations
  refused-stands (CheckCondition (Attention condition)) = same
  refused-stands _ = same

  sound-stands : {A : Type 0} (sound : Result A Refusal) (becomes : A → Effect)
      → ((value : A) → Stands (becomes value).after.reservations)
      → EffectStands (when_sound sound becomes)
  sound-stands (Ok value) becomes k = k value
  sound-stands (Err refusal) becomes k = tt

  pub outcome-stands : (effect : Result Effect Refusal) → EffectStands effect
      → Stands (step_outcome state j effect).state.reservations
  outcome-stands (Ok effect) k =
      outcome-by state j (λ (done : Step). Stands done.state.reservations) effect refused-stands
      (λ none. k)
  outcome-stands (Err refusal) k = refused-stands refusal

  module _ (kind : OutAction → OutList → Bool)
      (reserving-stands : (action : OutAction) (scope_type : ℕ) (list : OutList)
      → kind action list ≡ true → EffectStands
      (when_sound (reservation_change state j action scope_type list) (changing_reservations state j))) where
    operation-stands : (operation : Operation) → fits_list kind operation ≡ true
        → EffectStands (effect_of state j operation)
    operation-stands (ReturnModes request n) k =
        sound-stands (mode_parameters state.modes request) (returning_up_to state n) (λ list. same)
    operation-stands (ChangeModes width sp list) k =
        sound-stands (selected_modes state width sp list) (changing_modes state j) (λ modes. same)
    operation-stands (ChangeReservations action scope_type list) k =
        reserving-stands action scope_type list k
    operation-stands _ k = same

    -- however the command is read
    read-stands : (cdb data_out : List ℕ) (read : Result Command CdbFault)
        → ((operation : Operation) (k : Asked state j cdb data_out operation) → read ≡ Ok k.command)
        → is_of_list_kind kind read data_out ≡ true → Stands (step state j cdb data_out).state.reservations
    read-stands cdb data_out read is_read of_kind =
        lifted state j cdb data_out (λ (done : Step). Stands done.state.reservations) refused-stands
        (λ operation k. outcome-stands (effect_of state j operation) (operation-stands operation
        (asked-fits (config_of state) k.command data_out operation k.operation_is kind
        (sym (ap (λ (p : Result Command CdbFault). is_of_list_kind kind p data_out) (is_read operation k))
        ∙ of_kind))))

    pub step-stands : (cdb data_out : List ℕ) → is_of_list_kind kind (command_of cdb) data_out ≡ true
        → Stands (step state j cdb data_out).state.reservations
    step-stands cdb data_out =
        read-stands cdb data_out (command_of cdb) (λ operation k. k.command_is)

    -- the same by the command that the profile of the disk has
    pub step-stands-in : (cdb data_out : List ℕ)
        → is_of_list_kind kind (command_in (profile_of state) cdb) data_out ≡ true
        → Stands (step state j cdb data_out).state.reservations
    step-stands-in cdb data_out =
        read-stands cdb data_out (command_in (profile_of state) cdb) (λ operation k. k.read_as)

-- ---- Where i holds a reservation alone

-- i is registered, and the reservation is as it was
pub record StillHeld (before after : ReservationState) (i : ℕ) : Type 0 where
  pub here : is_registered after.registrations i ≡ true
  pub reservation : after.reservation ≡ before.reservation

-- The command is of another initiator j than i, the one holder of a reservation.
module _ (state : State) (i j : ℕ) (other : j ≡ i → ⊥) (h : HoldsAlone state.reservations i) where
  abbrev Stays : ReservationState → Type 0
  Stays after = StillHeld state.reservations after i

  stays : Stays state.reservations
  stays = record { here = h.registered; reservation = refl }

  abbrev HolderStands : Result Effect Refusal → Type 0
  HolderStands effect = EffectStands Stays state j stays effect

  abbrev H : ReservationChange → Type 0
  H = IsHeld (held_by h.kind i) i

  changing-stands : (o : Outcome) → EffectIs H o
      → HolderStands
      (when_sound (result_map_both (λ change. change) out_refusal o) (changing_reservations state j))
  changing-stands (Ok change) k =
      let held = k.shown change refl in
      record { here = held.here; reservation = held.reservation ∙ sym h.reservation_is }
  changing-stands (Err fault) k = tt

  out-holds : (action : OutAction) (scope_type : ℕ) (list : OutList)
      → ends_for_others action ≡ false
      → EffectIs H (outcome (rules_for state) state.reservations j action scope_type list)
  out-holds action scope_type list mild =
      let rs = state.reservations.registrations in
      let is : alone_in rs h.kind i state.reservations ≡ state.reservations =
      λ d. record state.reservations { reservation = sym h.reservation_is d } in
      subst (λ (r : ReservationState). EffectIs H (outcome (rules_for state) r j action scope_type list))
      is
      (outcome_holds (rules_for state) rs h.kind state.reservations i j action scope_type list mild
      h.registered (ne_eqb j i other))

  reserving-stands : (action : OutAction) (scope_type : ℕ) (list : OutList)
      → not (ends_for_others action) ≡ true
      → HolderStands (when_sound (reservation_change state j action scope_type list)
      (changing_reservations state j))
  unfolding reservation_change
  reserving-stands action scope_type list mild =
      changing-stands (outcome (rules_for state) state.reservations j action scope_type list)
      (out-holds action scope_type list (not-true (ends_for_others action) mild))

  abbrev leaves_others : OutAction → OutList → Bool
  leaves_others action list = not (ends_for_others action)

  of-kind : (parsed : Result Command CdbFault) (data_out : List ℕ) → can_end_for_others parsed ≡ false
      → is_of_list_kind leaves_others parsed data_out ≡ true
  of-kind (Ok (PersistentReserveOut c)) data_out mild = ap not mild
  of-kind (Ok _) data_out mild = refl
  of-kind (Err fault) data_out mild = refl

-- that i holds a reservation of one of the two types shows in its registration and the reservation
abbrev holds_by : (known : Bool) → Option Reservation → (i : ℕ) → Bool
holds_by known held i =
    let holder = option_map_or (λ (r : Reservation). known && holds r i) held false in
    (holder && has_type held WriteExclusive) || (holder && has_type held ExclusiveAccess)

shows : (state : State) (i : ℕ) (held : Option Reservation) → state.reservations.reservation ≡ held
    → holds_alone state i ≡ holds_by (is_registered state.reservations.registrations i) held i
shows state i None e = cc
shows state i (Some r) e = cc

pub stands-held : (state : State) (i j : ℕ) → (j ≡ i → ⊥) → HoldsAlone state.reservations i
    → holds_alone state i ≡ true → (cdb data_out : List ℕ)
    → can_end_for_others (command_of cdb) ≡ false
    → holds_alone (step state j cdb data_out).state i ≡ true
stands-held state i j other h held cdb data_out mild =
    let after = (step state j cdb data_out).state in
    let k = step-stands (Stays state i j other h) state j (stays state i j other h)
    (leaves_others state i j other h) (reserving-stands state i j other h) cdb data_out
    (of-kind state i j other h (command_of cdb) data_out mild) in
    let alone = Some (record { kind = h.kind; holder = Some i }) in
    shows after i alone (k.reservation ∙ h.reservation_is)
    ∙ (ap (λ known. holds_by known alone i) (k.here ∙ sym h.registered)
    ∙ (sym (shows state i alone h.reservation_is) ∙ held))
