-- The commands that decide whether registrations and reservation persist through a power loss.
use Rattle.std.proofs.Common.{◌≡◌, ◌==◌, ℕ, zero, suc, ◌+◌, Bool, true, false, not, ◌&&◌, ◌||◌}
use Rattle.std.proofs.Common.{List, [], ◌∷◌, Option, Some, None, Result}
use Rattle.std.proofs.Common.{Ok, Err, refl, sym, ap, ◌∙◌, cond, take, arith}
use Rattle.std.specs.Prelude.{slice_get, unwrap_or}
use Rattle.std.specs.Result.{result_map_both}
use Rattle.std.proofs.lemmas.Bool.{false≢true}
use Rattle.sg_wire.specs.CdbDecoding.{command_of}
use Rattle.sg_wire.specs.declared.command.CdbFault.{CdbFault}
use Rattle.sg_wire.specs.declared.command.Command.{Command}
use Rattle.sg_wire.specs.declared.command.Command.TheVariants.{PersistentReserveOut}
use Rattle.sg_wire.specs.declared.command.out_action.OutAction.{OutAction}
use Rattle.sg_wire.specs.declared.command.out_action.OutAction.TheVariants.{Register, Reserve}
use Rattle.sg_wire.specs.declared.command.out_action.OutAction.TheVariants.{Release, Clear, Preempt}
use Rattle.sg_wire.specs.declared.command.out_action.OutAction.TheVariants.{PreemptAndAbort}
use Rattle.sg_wire.specs.declared.command.out_action.OutAction.TheVariants.{RegisterAndIgnoreExistingKey}
use Rattle.sg_wire.specs.declared.command.out_action.OutAction.TheVariants.{RegisterAndMove}
use Rattle.sg_wire.specs.declared.out_list.OutList.{OutList}
use Rattle.sg_wire.specs.declared.profile.Rules.{Rules}
use Rattle.sg_units.specs.Registrations.{is_registered}
use Rattle.sg_units.specs.ReservationType.{type_of}
use Rattle.sg_units.specs.ReserveOut.{move_cases}
use Rattle.sg_units.specs.ReserveOut.{Outcome, action_outcome, outcome, preempt_cases, register_cases}
use Rattle.sg_units.specs.ReserveOut.{register_together_cases, release_cases, reserve_cases}
use Rattle.sg_units.specs.declared.reservation_change.ReservationChange.{ReservationChange}
use Rattle.sg_units.specs.declared.reservation_state.ReservationState.{ReservationState}
use Rattle.sg_units.specs.declared.types.ReservationType.{ReservationType}
use Rattle.sg_units.proofs.ConsistencyLemmas.{is_registered-under}
use Rattle.sg_units.proofs.OutcomeLemmas.{EffectIs, FirstIs, case_or, choice, effective, if-accepted}
use Rattle.sg_units.proofs.OutcomeLemmas.{last_case, refused, releasing, taking, typed}
use Rattle.sg_target.specs.Happenings.{after_happening}
use Rattle.sg_target.specs.PowerCycle.{after_power_cycle}
use Rattle.sg_target.specs.declared.happening.Happening.{Happening}
use Rattle.sg_target.specs.declared.happening.Happening.TheVariants.{Grow, Power}
use Rattle.sg_target.proofs.GrowthLemmas.{by-growth}
use Rattle.sg_target.specs.Refusal.{when_sound}
use Rattle.sg_target.specs.ReservationCommands.{changing_reservations, out_refusal}
use Rattle.sg_target.specs.ReservationCommands.{reservation_change}
use Rattle.sg_target.specs.Runs.{state_after_events, step_of}
use Rattle.sg_target.specs.State.{State}
use Rattle.sg_target.specs.Step.{Step, outcome as step_outcome, refused as refused_step, step}
use Rattle.sg_target.specs.Charge.{step_by}
use Rattle.sg_target.specs.declared.call.Call.{Call}
use Rattle.sg_target.specs.declared.event.Event.{Event}
use Rattle.sg_target.specs.declared.event.Event.TheVariants as event
use Rattle.sg_target.specs.declared.operation.Operation.TheVariants.{ChangeReservations}
use Rattle.sg_target.specs.declared.refusal.Reason.TheVariants.{UnitAttention as Attention}
use Rattle.sg_target.specs.declared.refusal.Refusal.{Refusal}
use Rattle.sg_target.specs.declared.refusal.Refusal.TheVariants.{CheckCondition}
use Rattle.sg_target.specs.declared.reply.Status.TheVariants.{Good}
use Rattle.sg_target.proofs.LiftLemmas.{not_good}
use Rattle.sg_fencing.specs.Laws.{RefusedChangesNothing}
use Rattle.sg_fencing.specs.PowerCycles.{Counts, NoneCountsFrom, TheLastRegisterDecides, persists}
use Rattle.sg_fencing.specs.Registrants.{is_registering, is_registrant, registering_list, rules_for}
use Rattle.sg_fencing.proofs.OperationLemmas.{is_of_list_kind}
use Rattle.sg_fencing.proofs.NewcomerLemmas.{with-list}
use Rattle.sg_fencing.proofs.PowerLemmas.{drops, keeps}
use Rattle.sg_fencing.proofs.StandingLemmas.{EffectStands, step-stands}
use Rattle.sg_target.proofs.AlertLemmas.{by-no-alert-step}
use Rattle.sg_fencing.proofs.NoAlertLemmas.{reserving-disk}

-- ---- The outcome

-- it leaves the flag, or sets it as APTPL says
abbrev Leaves : ReservationChange → Type 0
Leaves change = change.aptpl ≡ None

abbrev Sets : Bool → ReservationChange → Type 0
Sets aptpl change = change.aptpl ≡ Some aptpl

not-idle : (known zero_key : Bool) → (known || not zero_key) ≡ true → (not known && zero_key) ≡ true → ⊥
not-idle true zero_key a b = false≢true b
not-idle false true a b = false≢true a
not-idle false false a b = false≢true b

not-acting : (known zero_key : Bool) → (known || not zero_key) ≡ false → (not known && zero_key) ≡ false
    → ⊥
not-acting true zero_key a b = false≢true (sym a)
not-acting false true a b = false≢true (sym b)
not-acting false false a b = false≢true (sym a)

-- another action than those that register
abbrev pub is_other : OutAction → OutList → Bool
is_other action list = not (is_registering action)

module _ (rules : Rules) (state : ReservationState) (j : ℕ) where
  reserving : (type : ReservationType) → FirstIs (EffectIs Leaves) (reserve_cases state j type)
  unfolding reserve_cases
  reserving type =
      case_or (EffectIs Leaves) _ _ (λ _. effective Leaves _ refl)
      (λ _. case_or (EffectIs Leaves) _ _ (λ _. effective Leaves _ refl)
      (λ _. last_case (EffectIs Leaves) _ _ refl (refused Leaves _)))

  unreleased : (type : ReservationType) → FirstIs (EffectIs Leaves) (release_cases state j type)
  unfolding release_cases
  unreleased type =
      case_or (EffectIs Leaves) _ _ (λ _. effective Leaves _ refl)
      (λ _. case_or (EffectIs Leaves) _ _ (λ _. refused Leaves _)
      (λ _. last_case (EffectIs Leaves) _ _ refl (effective Leaves _ refl)))

  preempting : (type : Option ReservationType) (sark : ℕ)
      → FirstIs (EffectIs Leaves) (preempt_cases rules state j type sark)
  unfolding preempt_cases
  preempting type sark =
      case_or (EffectIs Leaves) _ _ (λ _. refused Leaves _)
      (λ _. case_or (EffectIs Leaves) _ _ (λ _. refused Leaves _)
      (λ _. case_or (EffectIs Leaves) _ _
      (λ _. taking Leaves state.reservation j type _ (λ type. effective Leaves _ refl))
      (λ _. case_or (EffectIs Leaves) _ _
      (λ _. taking Leaves state.reservation j type _ (λ type. effective Leaves _ refl))
      (λ _. case_or (EffectIs Leaves) _ _ (λ _. refused Leaves _)
      (λ _. last_case (EffectIs Leaves) _ _ refl (effective Leaves _ refl))))))

  action-leaves : (action : OutAction) (type : Option ReservationType) (list : OutList)
      → is_other action list ≡ true → EffectIs Leaves (action_outcome rules state j action type list)
  action-leaves Register type list h = absurd (false≢true h)
  action-leaves RegisterAndIgnoreExistingKey type list h = absurd (false≢true h)
  action-leaves RegisterAndMove type list h = absurd (false≢true h)
  action-leaves Reserve type list h = typed Leaves type _ (λ type. (reserving type).first)
  action-leaves Release type list h = releasing Leaves state j type refl unreleased
  action-leaves Clear type list h = effective Leaves _ refl
  action-leaves Preempt type list h = (preempting type list.service_action_key).first
  action-leaves PreemptAndAbort type list h = (preempting type list.service_action_key).first

  outcome-leaves : (action : OutAction) (scope_type : ℕ) (list : OutList) → is_other action list ≡ true
      → EffectIs Leaves (outcome rules state j action scope_type list)
  outcome-leaves action scope_type list h =
      if-accepted Leaves rules state j action scope_type list
      (λ _. action-leaves action (type_of scope_type) list h)

  -- those that register
  abbrev acts : (sark : ℕ) → Bool
  acts sark = is_registered state.registrations j || not (sark == 0)

  register-sets : (list : OutList) → acts list.service_action_key ≡ true
      → FirstIs (EffectIs (Sets list.aptpl)) (register_cases rules state j list)
  unfolding register_cases
  register-sets list h =
      let S = Sets list.aptpl in
      let known = is_registered state.registrations j in
      case_or (EffectIs S) _ _ (λ idle. absurd (not-idle known (list.service_action_key == 0) h idle))
      (λ _. case_or (EffectIs S) _ _ (λ _. refused S _)
      (λ _. case_or (EffectIs S) _ _ (λ _. effective S _ refl)
      (λ _. case_or (EffectIs S) _ _ (λ _. effective S _ refl)
      (λ _. last_case (EffectIs S) _ _ refl (effective S _ refl)))))

  together-sets : (list : OutList) → acts list.service_action_key ≡ true
      → FirstIs (EffectIs (Sets list.aptpl)) (register_together_cases state j list)
  unfolding register_together_cases
  together-sets list h =
      let S = Sets list.aptpl in
      let known = is_registered state.registrations j in
      case_or (EffectIs S) _ _ (λ idle. absurd (not-idle known (list.service_action_key == 0) h idle))
      (λ _. case_or (EffectIs S) _ _ (λ _. refused S _)
      (λ _. case_or (EffectIs S) _ _ (λ _. refused S _)
      (λ _. case_or (EffectIs S) _ _ (λ _. refused S _)
      (λ _. last_case (EffectIs S) _ _ refl (effective S _ refl)))))

  move-sets : (list : OutList) → FirstIs (EffectIs (Sets list.aptpl)) (move_cases state j list)
  unfolding move_cases
  move-sets list =
      let S = Sets list.aptpl in
      case_or (EffectIs S) _ _ (λ _. refused S _)
      (λ _. case_or (EffectIs S) _ _ (λ _. refused S _)
      (λ _. case_or (EffectIs S) _ _ (λ _. refused S _)
      (λ _. case_or (EffectIs S) _ _ (λ _. refused S _)
      (λ _. case_or (EffectIs S) _ _ (λ _. refused S _)
      (λ _. case_or (EffectIs S) _ _ (λ _. refused S _)
      (λ _. case_or (EffectIs S) _ _ (λ _. refused S _)
      (λ _. last_case (EffectIs S) _ _ refl (effective S _ refl))))))))

  register-leaves : (list : OutList) → acts list.service_action_key ≡ false
      → FirstIs (EffectIs Leaves) (register_cases rules state j list)
  unfolding register_cases
  register-leaves list h =
      let known = is_registered state.registrations j in
      case_or (EffectIs Leaves) _ _ (λ _. effective Leaves _ refl)
      (λ acting. absurd (not-acting known (list.service_action_key == 0) h acting))

  together-leaves : (list : OutList) → acts list.service_action_key ≡ false
      → FirstIs (EffectIs Leaves) (register_together_cases state j list)
  unfolding register_together_cases
  together-leaves list h =
      let known = is_registered state.registrations j in
      case_or (EffectIs Leaves) _ _ (λ _. effective Leaves _ refl)
      (λ acting. absurd (not-acting known (list.service_action_key == 0) h acting))

  -- j's key is accepted only if j is registered
  move-leaves : (list : OutList) → acts list.service_action_key ≡ false
      → is_registered state.registrations j ≡ true → FirstIs (EffectIs Leaves) (move_cases state j list)
  move-leaves list h known =
      absurd (false≢true (sym h ∙ ap (λ b. b || not (list.service_action_key == 0)) known))

  by-register : (P : ReservationChange → Type 0) (action : OutAction) (scope_type : ℕ) (list : OutList)
      → is_registering action ≡ true → FirstIs (EffectIs P) (register_cases rules state j list)
      → FirstIs (EffectIs P) (register_together_cases state j list)
      → (is_registered state.registrations j ≡ true → FirstIs (EffectIs P) (move_cases state j list))
      → EffectIs P (outcome rules state j action scope_type list)
  by-register P Register scope_type list h f t m =
      if-accepted P rules state j Register scope_type list
      (λ _. choice (EffectIs P) list.spec_i_pt _ _ (λ _. t.first) (λ _. f.first))
  by-register P RegisterAndIgnoreExistingKey scope_type list h f t m =
      if-accepted P rules state j RegisterAndIgnoreExistingKey scope_type list (λ _. f.first)
  by-register P RegisterAndMove scope_type list h f t m =
      if-accepted P rules state j RegisterAndMove scope_type list
      (λ accepted. (m (is_registered-under state.registrations j list.reservation_key accepted)).first)
  by-register P _ scope_type list h f t m = absurd (false≢true h)

-- ---- The command

pub of-kind : (parsed : Result Command CdbFault) (data_out : List ℕ)
    → registering_list parsed data_out ≡ None
    → is_of_list_kind is_other parsed data_out ≡ true
of-kind (Ok (PersistentReserveOut c)) data_out h = by-action (is_registering c.action) _ h
  where
    by-action : (b : Bool) (list : OutList) → cond {A = Option OutList} b (Some list) None ≡ None
        → not b ≡ true
    by-action true list e = cc
    by-action false list e = refl
of-kind (Ok _) data_out h = refl
of-kind (Err fault) data_out h = refl

module _ (state : State) (j : ℕ) where
  abbrev Same : ReservationState → Type 0
  Same after = after.persists_through_power_loss ≡ persists state

  changing-leaves : (o : Outcome) → EffectIs Leaves o → EffectStands Same state j refl
      (when_sound (result_map_both (λ change. change) out_refusal o) (changing_reservations state j))
  changing-leaves (Ok change) k = ap (λ a. unwrap_or a (persists state)) (k.shown change refl)
  changing-leaves (Err fault) k = tt

  reserving-leaves : (action : OutAction) (scope_type : ℕ) (list : OutList)
      → is_other action list ≡ true → EffectStands Same state j refl
      (when_sound (reservation_change state j action scope_type list) (changing_reservations state j))
  unfolding reservation_change
  reserving-leaves action scope_type list h =
      changing-leaves (outcome (rules_for state) state.reservations j action scope_type list)
      (outcome-leaves (rules_for state) state.reservations j action scope_type list h)

  other-leaves : (cdb data_out : List ℕ) → registering_list (command_of cdb) data_out ≡ None
      → persists (step state j cdb data_out).state ≡ persists state
  other-leaves cdb data_out h =
      step-stands Same state j refl is_other reserving-leaves cdb data_out
      (of-kind (command_of cdb) data_out h)

  -- ---- a REGISTER

  module _ (list : OutList) where
    abbrev Set : Step → Type 0
    Set done = done.answer.status ≡ Good → persists done.state ≡ list.aptpl

    abbrev Left : Step → Type 0
    Left done = persists done.state ≡ persists state

    refused-left : (refusal : Refusal) → Left (refused_step state j refusal)
    refused-left (CheckCondition (Attention condition)) = refl
    refused-left _ = refl

    set-outcome : (o : Outcome) → EffectIs (Sets list.aptpl) o
        → Set (step_outcome state j (when_sound (result_map_both (λ change. change) out_refusal o)
        (changing_reservations state j)))
    set-outcome (Ok change) k good = ap (λ a. unwrap_or a (persists state)) (k.shown change refl)
    set-outcome (Err fault) k good = absurd (not_good state j (out_refusal fault) good)

    left-outcome : (o : Outcome) → EffectIs Leaves o
        → Left (step_outcome state j (when_sound (result_map_both (λ change. change) out_refusal o)
        (changing_reservations state j)))
    left-outcome (Ok change) k = ap (λ a. unwrap_or a (persists state)) (k.shown change refl)
    left-outcome (Err fault) k = refused-left (out_refusal fault)

    -- what follows from each change of one that registers is true of the command
    module _ (P : ReservationChange → Type 0) (After : Step → Type 0)
        (refusing : (refusal : Refusal) → After (refused_step state j refusal))
        (following : (o : Outcome) → EffectIs P o
        → After (step_outcome state j (when_sound (result_map_both (λ change. change) out_refusal o)
        (changing_reservations state j))))
        (cases : FirstIs (EffectIs P) (register_cases (rules_for state) state.reservations j list))
        (together : FirstIs (EffectIs P) (register_together_cases state.reservations j list))
        (moving : is_registrant state j ≡ true
        → FirstIs (EffectIs P) (move_cases state.reservations j list)) where
      after-action : (action : OutAction) (scope_type : ℕ) → is_registering action ≡ true
          → After (step_by state j (ChangeReservations action scope_type list))
      unfolding reservation_change
      after-action action scope_type h =
          let o = outcome (rules_for state) state.reservations j action scope_type list in
          by-no-alert-step After state j _ (reserving-disk state j o)
          (following o
          (by-register (rules_for state) state.reservations j P action scope_type list h cases together
          moving))

      after-command : (cdb data_out : List ℕ) → registering_list (command_of cdb) data_out ≡ Some list
          → After (step state j cdb data_out)
      after-command = with-list state j list After refusing after-action

    sets : acts (rules_for state) state.reservations j list.service_action_key ≡ true
        → (cdb data_out : List ℕ) → registering_list (command_of cdb) data_out ≡ Some list
        → Set (step state j cdb data_out)
    sets a =
        after-command (Sets list.aptpl) Set (λ refusal good. absurd (not_good state j refusal good))
        set-outcome (register-sets (rules_for state) state.reservations j list a)
        (together-sets (rules_for state) state.reservations j list a)
        (λ _. move-sets (rules_for state) state.reservations j list)

    leaves : acts (rules_for state) state.reservations j list.service_action_key ≡ false
        → (cdb data_out : List ℕ) → registering_list (command_of cdb) data_out ≡ Some list
        → Left (step state j cdb data_out)
    leaves a =
        after-command Leaves Left refused-left left-outcome
        (register-leaves (rules_for state) state.reservations j list a)
        (together-leaves (rules_for state) state.reservations j list a)
        (move-leaves (rules_for state) state.reservations j list a)

counted-sets : (state : State) (call : Call) (list : OutList) → Counts state call list
    → persists (step_of state call).state ≡ list.aptpl
counted-sets state call list k =
    sets state call.initiator list k.acts call.cdb.now call.data_out.now k.sent k.good

module _ (keeps_refused : RefusedChangesNothing) where
  by-acts : (state : State) (call : Call) (list : OutList)
      → registering_list (command_of call.cdb.now) call.data_out.now ≡ Some list
      → (Counts state call list → ⊥)
      → (a : Bool) → acts (rules_for state) state.reservations call.initiator list.service_action_key ≡ a
      → persists (step_of state call).state ≡ persists state
  by-acts state call list e none true a =
      let kept = keeps_refused state call.initiator call.cdb.now call.data_out.now
      (λ good. none (record { sent = e; good = good; acts = a })) in
      ap (λ (r : ReservationState). r.persists_through_power_loss) kept.reservations
  by-acts state call list e none false a =
      leaves state call.initiator list a call.cdb.now call.data_out.now e

  by-list : (state : State) (call : Call) (sent : Option OutList)
      → registering_list (command_of call.cdb.now) call.data_out.now ≡ sent
      → ((list : OutList) → Counts state call list → ⊥)
      → persists (step_of state call).state ≡ persists state
  by-list state call None e none =
      other-leaves state call.initiator call.cdb.now call.data_out.now e
  by-list state call (Some list) e none =
      by-acts state call list e (none list)
      (acts (rules_for state) state.reservations call.initiator list.service_action_key) refl

  -- ---- Lists of events

  power-leaves : (state : State) (b : Bool) → persists state ≡ b
      → persists (after_power_cycle state) ≡ persists state
  power-leaves state true e = (keeps state e).persist ∙ sym e
  power-leaves state false e = (drops state e).persist ∙ sym e

  happening-leaves : (happening : Happening) (state : State)
      → persists (after_happening happening state) ≡ persists state
  happening-leaves Power state = power-leaves state (persists state) refl
  happening-leaves (Grow capacity) state =
      by-growth (λ after. persists after ≡ persists state) capacity state (λ more fits. refl) refl
  happening-leaves _ state = refl

  none-decides : (state : State) (events : List Event) → NoneCountsFrom 0 state events
      → persists (state_after_events state events) ≡ persists state
  none-decides state [] none = refl
  none-decides state (event.Call first ∷ events) none =
      none-decides (step_of state first).state events
      (λ n call list from at. none (suc n) call list (omega arith) at)
      ∙ by-list state first
      (registering_list (command_of first.cdb.now) first.data_out.now) refl
      (λ list. none 0 first list (omega arith) refl)
  none-decides state (event.Happen happening ∷ events) none =
      none-decides (after_happening happening state) events
      (λ n call list from at. none (suc n) call list (omega arith) at)
      ∙ happening-leaves happening state

  last-decides : (state : State) (events : List Event) (n : ℕ) (call : Call) (list : OutList)
      → slice_get events n ≡ Some (event.Call call)
      → Counts (state_after_events state (take n events)) call list
      → NoneCountsFrom (n + 1) state events
      → persists (state_after_events state events) ≡ list.aptpl
  last-decides state [] n call list e k none = cc
  last-decides state (event.Happen happening ∷ events) zero call list e k none = cc
  last-decides state (event.Call first ∷ events) zero call list e k none =
      let same : first ≡ call = cc in
      none-decides (step_of state first).state events
      (λ n other l from at. none (suc n) other l (omega arith) at)
      ∙ (ap (λ (c : Call). persists (step_of state c).state) same ∙ counted-sets state call list k)
  last-decides state (event.Call first ∷ events) (suc n) call list e k none =
      last-decides (step_of state first).state events n call list e k
      (λ m other l from at. none (suc m) other l (omega arith) at)
  last-decides state (event.Happen happening ∷ events) (suc n) call list e k none =
      last-decides (after_happening happening state) events n call list e k
      (λ m other l from at. none (suc m) other l (omega arith) at)

  pub the-last-decides : TheLastRegisterDecides
  the-last-decides = record { last = last-decides; none = none-decides }
