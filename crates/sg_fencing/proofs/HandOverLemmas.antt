-- A REGISTER AND MOVE that ends with GOOD hands the reservation over.
use Rattle.std.proofs.Common.{◌≡◌, ◌==◌, ℕ, true, false, not, ◌||◌, List, [], ◌∷◌, Some, None}
use Rattle.std.proofs.Common.{Result, Ok, Err, refl, sym, ap, ◌∙◌, subst}
use Rattle.std.specs.Prelude.{if◌then◌else◌, unwrap_or}
use Rattle.std.specs.Result.{result_map_both}
use Rattle.std.proofs.lemmas.Bool.{and_parts, eq-eqb, false≢true, ne_eqb, not-false}
use Rattle.std.proofs.lemmas.Option.{cond_some}
use Rattle.sg_wire.specs.FirstBytes.{first_bytes}
use Rattle.sg_wire.specs.Laws.{has_command}
use Rattle.sg_wire.specs.OutList.{list_of as out_list_of}
use Rattle.sg_wire.specs.declared.command.CdbFault.{CdbFault}
use Rattle.sg_wire.specs.declared.command.Command.{Command}
use Rattle.sg_wire.specs.declared.command.Command.TheVariants.{PersistentReserveOut}
use Rattle.sg_wire.specs.declared.command.out_action.OutAction.{OutAction}
use Rattle.sg_wire.specs.declared.command.out_action.OutAction.TheVariants.{RegisterAndMove}
use Rattle.sg_wire.specs.declared.out_list.OutList.{OutList}
use Rattle.sg_wire.specs.declared.profile.Rules.{Rules}
use Rattle.sg_wire.proofs.ProfileLemmas.{has-parts, is-in}
use Rattle.sg_units.specs.Registrations.{is_registered, key_of}
use Rattle.sg_units.specs.Reservations.{is_holder}
use Rattle.sg_units.specs.ReserveOut.{Outcome, has_one_holder, move_cases, moved, moved_to, outcome}
use Rattle.sg_units.specs.ReserveOut.{generation_after, raised_by, raised_for}
use Rattle.sg_units.specs.Attentions.{pending_for}
use Rattle.sg_units.specs.Raised.{raised_for_each}
use Rattle.sg_units.specs.declared.reservation_change.ReservationChange.{ReservationChange}
use Rattle.sg_units.specs.declared.reservation_state.ReservationState.{ReservationState}
use Rattle.sg_units.proofs.OutcomeLemmas.{EffectIs, FirstIs, case_or, effective, if-accepted, last_case}
use Rattle.sg_units.proofs.OutcomeLemmas.{refused}
use Rattle.sg_target.specs.Charge.{step_by}
use Rattle.sg_target.specs.Demands.{demands}
use Rattle.sg_target.specs.Refusal.{when_sound}
use Rattle.sg_target.specs.ReservationCommands.{changing_reservations, has_list_length, out_refusal}
use Rattle.sg_target.specs.ReservationCommands.{reservation_change}
use Rattle.sg_target.specs.State.{IsWithinLimits, State, config_of, profile_of}
use Rattle.sg_target.specs.Step.{Step, outcome as step_outcome}
use Rattle.sg_target.specs.declared.operation.Operation.{Operation}
use Rattle.sg_target.specs.declared.operation.Operation.TheVariants.{ChangeReservations}
use Rattle.sg_target.specs.declared.refusal.Reason.TheVariants.{ParameterListLengthError}
use Rattle.sg_target.specs.declared.refusal.Refusal.TheVariants.{CheckCondition}
use Rattle.sg_target.specs.declared.reply.Status.TheVariants.{Good}
use Rattle.sg_target.proofs.LiftLemmas.{lifted, not_good}
use Rattle.sg_fencing.specs.Fencing.{is_moving}
use Rattle.sg_fencing.specs.Registrants.{HoldersHandOver, IsHandedOver, held_by, moving_list, rules_for}
use Rattle.sg_fencing.proofs.HolderLemmas.{raised-none, raised-others}
use Rattle.sg_fencing.proofs.MovedLemmas.{HeldBy, held-alone}
use Rattle.sg_fencing.proofs.MovedLemmas.{left-caller, left-other, moved-key, moved-other, target-named}
use Rattle.sg_fencing.proofs.OperationLemmas.{listed}
use Rattle.sg_fencing.proofs.RegistrationLemmas.{nothing}
use Rattle.sg_fencing.proofs.TogetherLemmas.{had-supports}
use Rattle.sg_target.proofs.AlertLemmas.{by-no-alert}
use Rattle.sg_fencing.proofs.NoAlertLemmas.{reserving-disk}

-- ---- The outcome

-- the change hands the reservation over
pub record Hands (state : ReservationState) (j : ℕ) (list : OutList) (change : ReservationChange)
    : Type 0 where
  pub target : ℕ
  pub named : list.others ≡ Some target ∷ []
  pub another : (target == j) ≡ false
  pub held : HeldBy state.reservation state.registrations j
  pub taken : change.reservation ≡ held_by held.kind target
  pub key : key_of change.registrations target ≡ Some list.service_action_key
  pub sender_key : key_of change.registrations j
      ≡ (if list.unreg then None else key_of state.registrations j)
  pub other_keys : (i : ℕ) → (target == i) ≡ false → (j == i) ≡ false
      → key_of change.registrations i ≡ key_of state.registrations i
  pub increments : change.increments_generation ≡ true
  pub aptpl : change.aptpl ≡ Some list.aptpl
  pub for_removed : change.for_removed ≡ None
  pub for_remaining : change.for_remaining ≡ None

module _ (rules : Rules) (state : ReservationState) (j : ℕ) (list : OutList) where
  abbrev H : ReservationChange → Type 0
  H = Hands state j list

  move-hands : FirstIs (EffectIs H) (move_cases state j list)
  unfolding move_cases
  move-hands =
      let all = state.registrations in
      let target = unwrap_or (moved_to list.others) j in
      case_or (EffectIs H) _ _ (λ _. refused H _)
      (λ _. case_or (EffectIs H) _ _ (λ _. refused H _)
      (λ holds. case_or (EffectIs H) _ _ (λ _. refused H _)
      (λ _. case_or (EffectIs H) _ _ (λ _. refused H _)
      (λ _. case_or (EffectIs H) _ _ (λ _. refused H _)
      (λ _. case_or (EffectIs H) _ _ (λ _. refused H _)
      (λ another. case_or (EffectIs H) _ _ (λ _. refused H _)
      (λ _.
      let parts = and_parts (has_one_holder state.reservation) (is_holder state j) (not-false _ holds) in
      let held = held-alone state.reservation all j parts.0 parts.1 in
      last_case (EffectIs H) _ _ refl
      (effective H _ (record {
        target = target;
        named = target-named list.others j another;
        another = another;
        held = held;
        taken = ap (λ held. moved held target) held.held_is;
        key = moved-key all j target list;
        sender_key = moved-other all j target list j another ∙ left-caller all j target list;
        other_keys = λ i apart other.
            moved-other all j target list i apart ∙ left-other all j target list i other;
        increments = refl;
        aptpl = refl;
        for_removed = refl;
        for_remaining = refl;
      })))))))))

  outcome-hands : (action : OutAction) (scope_type : ℕ) → is_moving action ≡ true
      → EffectIs H (outcome rules state j action scope_type list)
  outcome-hands RegisterAndMove scope_type h =
      if-accepted H rules state j RegisterAndMove scope_type list (λ _. move-hands.first)
  outcome-hands _ scope_type h = absurd (false≢true h)

-- ---- The command

module _ (state : State) (j : ℕ) (list : OutList) (w : IsWithinLimits state) where
  unraised : (change : ReservationChange) → change.for_remaining ≡ None → change.for_removed ≡ None
      → (i : ℕ) → pending_for (raised_for_each state.attentions
      (raised_by state.reservations.registrations j change)) i ≡ pending_for state.attentions i
  unfolding raised_by
  unraised change remaining removed i =
      let rs = state.reservations.registrations in
      raised-others state.attentions (raised_by rs j change) i w.pending.one_for_each
      (raised-none (raised_for rs j change) i
      (nothing (i == j || not (is_registered rs i)) (is_registered change.registrations i)
      change.for_remaining change.for_removed remaining removed))

  abbrev Follows : Step → Type 0
  Follows done = done.answer.status ≡ Good → IsHandedOver state done.state j list

  after-outcome : (rules_for state).specifies_ports ≡ true → (o : Outcome)
      → EffectIs (Hands state.reservations j list) o
      → Follows (step_outcome state j (when_sound (result_map_both (λ change. change) out_refusal o)
      (changing_reservations state j)))
  after-outcome supported (Ok change) k good =
      let it = k.shown change refl in
      record {
        target = it.target;
        named = it.named;
        another = λ same. false≢true (sym it.another ∙ eq-eqb it.target j same);
        taken_over = record {
          supported = supported;
          registered = it.held.registered;
          type = it.held.kind;
          held = it.held.held_is;
          taken = it.taken;
        };
        key = it.key;
        sender_key = it.sender_key;
        other_keys = λ other apart from_sender.
            it.other_keys other (ne_eqb it.target other (λ e. apart (sym e)))
            (ne_eqb j other (λ e. from_sender (sym e)));
        generation = ap (λ b. generation_after b state.reservations.generation) it.increments;
        persists = ap (λ a. unwrap_or a state.reservations.persists_through_power_loss) it.aptpl;
        disk = refl;
        modes = refl;
        attentions = unraised change it.for_remaining it.for_removed;
      }
  after-outcome supported (Err fault) k good = absurd (not_good state j (out_refusal fault) good)

  after-moving : (rules_for state).specifies_ports ≡ true → (action : OutAction) (scope_type : ℕ)
      → is_moving action ≡ true → Follows (step_by state j (ChangeReservations action scope_type list))
  unfolding reservation_change
  after-moving supported action scope_type h good =
      let o = outcome (rules_for state) state.reservations j action scope_type list in
      by-no-alert (λ (after : State). IsHandedOver state after j list) state j _ (reserving-disk state j o)
      (after-outcome supported o
      (outcome-hands (rules_for state) state.reservations j list action scope_type h) good)

  by-command : (command : Command) (data_out : List ℕ) (operation : Operation)
      → has_command (profile_of state) command ≡ true
      → (demands (config_of state) command data_out).operation ≡ Ok operation
      → moving_list (Ok command) data_out ≡ Some list → Follows (step_by state j operation)
  by-command (PersistentReserveOut c) data_out operation has e h =
      let bytes = first_bytes c.list_length data_out in
      let parts = cond_some (is_moving c.action) (out_list_of c.action bytes) list h in
      let asked = listed c.action c.scope_type (has_list_length (rules_for state) c.action bytes)
      (out_list_of c.action bytes) (CheckCondition ParameterListLengthError) operation e in
      let had = (has-parts (profile_of state) (PersistentReserveOut c) has).1 in
      subst (λ (o : Operation). Follows (step_by state j o))
      (ap (λ (l : OutList). ChangeReservations c.action c.scope_type l) (sym parts.1) ∙ asked)
      (after-moving (had-supports (profile_of state) c.action had parts.0) c.action c.scope_type parts.0)
  by-command _ data_out operation has e h = cc

pub handed-over : HoldersHandOver
handed-over state j cdb data_out list w sent =
    lifted state j cdb data_out (Follows state j list w)
    (λ refusal good. absurd (not_good state j refusal good))
    (λ operation k. by-command state j list w k.command data_out operation
    (is-in (profile_of state) cdb k.command k.read_as) k.operation_is
    (sym (ap (λ (p : Result Command CdbFault). moving_list p data_out) k.command_is) ∙ sent))
