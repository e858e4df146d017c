-- The effect of others' commands on the holder's view.
use Rattle.std.proofs.Common.{◌≡◌, ℕ, Bool, true, false, List}
use Rattle.std.proofs.Common.{Some, None, Result, Ok, Err, refl, sym, ap, ◌∙◌, subst}
use Rattle.std.specs.Result.{result_map_both}
use Rattle.std.proofs.lemmas.Bool.{ne_eqb}
use Rattle.sg_wire.specs.CdbDecoding.{command_of}
use Rattle.sg_wire.specs.Laws.{CommandsHaveTheirClass}
use Rattle.sg_wire.specs.declared.command.CdbFault.{CdbFault}
use Rattle.sg_wire.specs.declared.command.Command.{Command}
use Rattle.sg_wire.specs.declared.command.Command.TheVariants.{PersistentReserveOut}
use Rattle.sg_wire.specs.declared.command.Class.TheVariants.{Writes}
use Rattle.sg_wire.specs.declared.command.out_action.OutAction.{OutAction}
use Rattle.sg_units.specs.Access.{allows}
use Rattle.sg_units.specs.Laws.{OthersAreRefused}
use Rattle.sg_units.specs.Registrations.{key_of}
use Rattle.sg_units.specs.declared.unit_attention.UnitAttention.TheVariants.{ReportedLunsDataChanged}
use Rattle.sg_units.specs.ReserveOut.{Outcome, outcome, raised_by, raised_for}
use Rattle.sg_wire.specs.declared.out_list.OutList.{OutList}
use Rattle.sg_units.specs.declared.reservation_change.ReservationChange.{ReservationChange}
use Rattle.sg_units.specs.declared.reservation_state.ReservationState.{ReservationState}
use Rattle.sg_fencing.proofs.ReserveOutLemmas.{IsLeftIfHolder, alone_in, is_one_holder}
use Rattle.sg_fencing.proofs.ReserveOutLemmas.{outcome_leaves}
use Rattle.sg_units.proofs.OutcomeLemmas.{EffectIs}
use Rattle.sg_target.specs.Effect.{Effect, returning_up_to, without_attention}
use Rattle.sg_target.specs.ModeCommands.{mode_parameters}
use Rattle.sg_target.specs.PrimaryCommands.{returning_luns}
use Rattle.sg_target.specs.Refusal.{when_sound}
use Rattle.sg_target.specs.ReservationCommands.{changing_reservations, out_refusal}
use Rattle.sg_target.specs.ReservationCommands.{reservation_change}
use Rattle.sg_target.specs.Semantics.{effect_of}
use Rattle.sg_target.specs.State.{IsWithinLimits, State, config_of}
use Rattle.sg_target.specs.Step.{Step, outcome as step_outcome, refused, step}
use Rattle.sg_target.specs.declared.operation.Operation.{Operation}
use Rattle.sg_target.specs.declared.operation.Operation.TheVariants.{CompareAndWrite, Copy, OrWrite}
use Rattle.sg_target.specs.declared.operation.Operation.TheVariants.{ReturnSense, ReturnModes}
use Rattle.sg_target.specs.declared.operation.Operation.TheVariants.{ReturnLuns, StartStop}
use Rattle.sg_target.specs.declared.operation.Operation.TheVariants.{ChangeModes, Write, Fill, Unmap}
use Rattle.sg_target.specs.declared.operation.Operation.TheVariants.{Anchor, AnchorExtent}
use Rattle.sg_target.specs.declared.operation.Operation.TheVariants.{ChangeReservations, UnmapAll}
use Rattle.sg_target.specs.declared.operation.Operation.TheVariants.{UnmapExtent}
use Rattle.sg_target.specs.declared.refusal.Reason.TheVariants.{UnitAttention as Attention}
use Rattle.sg_target.specs.declared.refusal.Refusal.{Refusal}
use Rattle.sg_target.specs.declared.refusal.Refusal.TheVariants.{CheckCondition}
use Rattle.sg_target.proofs.LiftLemmas.{lifted, outcome-by}
use Rattle.sg_target.specs.Laws.{LimitsAreKept}
use Rattle.sg_fencing.specs.Fencing.{IsLeft, holds_alone, view_of, View}
use Rattle.sg_fencing.proofs.AccessLemmas.{asked-is-allowed}
use Rattle.sg_fencing.proofs.HolderLemmas.{HoldsAlone, alone, cleared-other, one-holder}
use Rattle.sg_fencing.proofs.HolderLemmas.{raised-none, raised-others, refuses-others, same-view}
use Rattle.sg_fencing.proofs.HolderLemmas.{without-other}
use Rattle.sg_fencing.proofs.OperationLemmas.{asked-fits, class_for, fits_list, is_of_list_kind}
use Rattle.sg_fencing.specs.Registrants.{held_by, rules_for}
use Rattle.sg_target.proofs.AlertLemmas.{by-no-alert}

-- the view of i and the identity of the disk are as they were, but the unit may have been started
pub record Keeps (before after : State) (i : ℕ) : Type 0 where
  pub identity : after.identity ≡ before.identity
  pub left : IsLeft before after i

pub nothing-left : (state : State) (i : ℕ) → IsLeft state state i
nothing-left state i = record { view = refl; not_stopped = λ h. h }

-- a unit that is neither stopped nor started
pub same-stopped : (before after : Bool) → (before ≡ false → after ≡ false)
    → (before ≡ true → after ≡ true) → before ≡ after
same-stopped true after stays starts = sym (starts refl)
same-stopped false after stays starts = sym (stays refl)

pub same : (state : State) (i : ℕ) → Keeps state state i
same state i = record { identity = refl; left = nothing-left state i }

refused-keeps : (state : State) (i j : ℕ) → (j ≡ i → ⊥) → (refusal : Refusal)
    → Keeps state (refused state j refusal).state i
refused-keeps state i j other (CheckCondition (Attention condition)) = record {
  identity = refl;
  left = record {
    view =
        same-view (refused state j (CheckCondition (Attention condition))).state state i refl refl
        (cleared-other state.attentions i j other) refl refl refl;
    not_stopped = λ h. h;
  };
}
refused-keeps state i j other _ = same state i

-- a change that leaves the key of i and the reservation, and raises nothing for i
pub changed-view : (state : State) (i j : ℕ) → IsWithinLimits state → (change : ReservationChange)
    → key_of change.registrations i ≡ key_of state.reservations.registrations i
    → change.reservation ≡ state.reservations.reservation
    → raised_for state.reservations.registrations j change i ≡ None
    → view_of (changing_reservations state j change).after i ≡ view_of state i
unfolding raised_by
changed-view state i j w change key reservation unraised =
    let raised = raised_for state.reservations.registrations j change in
    same-view (changing_reservations state j change).after state i refl refl
    (raised-others state.attentions (raised_by state.reservations.registrations j change) i
    w.pending.one_for_each (raised-none raised i unraised))
    key reservation refl

pub changed-keeps : (state : State) (i j : ℕ) → IsWithinLimits state → (change : ReservationChange)
    → key_of change.registrations i ≡ key_of state.reservations.registrations i
    → change.reservation ≡ state.reservations.reservation
    → raised_for state.reservations.registrations j change i ≡ None
    → Keeps state (changing_reservations state j change).after i
changed-keeps state i j w change key reservation unraised = record {
  identity = refl;
  left = record {
    view = changed-view state i j w change key reservation unraised;
    not_stopped = λ h. h;
  };
}

-- ---- The command

-- A command of another initiator j, which the reservation does not allow to write. PERSISTENT
-- RESERVE OUT is known to keep the view and the identity if a condition holds of the reservations
-- afterwards.
module _ (Where : ReservationState → Type 0) (state : State) (i j : ℕ) (other : j ≡ i → ⊥) where
  abbrev pub KeepsWhere : State → Type 0
  KeepsWhere after = Where after.reservations → Keeps state after i

  abbrev pub EffectKeeps : Result Effect Refusal → Type 0
  EffectKeeps (Ok effect) = KeepsWhere effect.after
  EffectKeeps (Err refusal) = Unit {0}

  sound-keeps : {A : Type 0} (sound : Result A Refusal) (becomes : A → Effect)
      → ((value : A) → KeepsWhere (becomes value).after) → EffectKeeps (when_sound sound becomes)
  sound-keeps (Ok value) becomes k = k value
  sound-keeps (Err refusal) becomes k = tt

  outcome-keeps : (effect : Result Effect Refusal) → EffectKeeps effect
      → KeepsWhere (step_outcome state j effect).state
  outcome-keeps (Ok effect) k =
      outcome-by state j (λ (done : Step). KeepsWhere done.state) effect
      (λ refusal _. refused-keeps state i j other refusal) (λ none. k)
  outcome-keeps (Err refusal) k = λ _. refused-keeps state i j other refusal

  module _ (no_writes : allows state.reservations j Writes ≡ false)
      (kind : OutAction → OutList → Bool)
      (reserving-keeps : (action : OutAction) (scope_type : ℕ) (list : OutList)
      → kind action list ≡ true → EffectKeeps
      (when_sound (reservation_change state j action scope_type list) (changing_reservations state j))) where
    operation-keeps : (operation : Operation) → (class_for operation ≡ Some Writes → ⊥)
        → fits_list kind operation ≡ true → EffectKeeps (effect_of state j operation)
    operation-keeps (StartStop true) c k = λ _. record {
      identity = refl;
      left = record { view = refl; not_stopped = λ h. refl };
    }
    operation-keeps (StartStop false) c k = absurd (c refl)
    operation-keeps (ReturnSense format n) c k = λ _. record {
      identity = refl;
      left = record {
        view =
            same-view (without_attention state j) state i refl refl
            (cleared-other state.attentions i j other) refl refl refl;
        not_stopped = λ h. h;
      };
    }
    operation-keeps (ReturnLuns listed n) c k = λ _. record {
      identity = refl;
      left = record {
        view =
            same-view (returning_luns state j listed n).after state i refl refl
            (without-other state.attentions i j other ReportedLunsDataChanged) refl refl refl;
        not_stopped = λ h. h;
      };
    }
    operation-keeps (ReturnModes request n) c k =
        sound-keeps (mode_parameters state.modes request) (returning_up_to state n)
        (λ list _. same state i)
    operation-keeps (ChangeModes width sp list) c k = absurd (c refl)
    operation-keeps (CompareAndWrite exchange) c k = absurd (c refl)
    operation-keeps (OrWrite out) c k = absurd (c refl)
    operation-keeps (Copy segment) c k = absurd (c refl)
    operation-keeps (Write out) c k = absurd (c refl)
    operation-keeps (Fill extent block) c k = absurd (c refl)
    operation-keeps (Unmap extents) c k = absurd (c refl)
    operation-keeps (UnmapExtent extent) c k = absurd (c refl)
    operation-keeps (UnmapAll blocks) c k = absurd (c refl)
    operation-keeps (Anchor extents) c k = absurd (c refl)
    operation-keeps (AnchorExtent extent) c k = absurd (c refl)
    operation-keeps (ChangeReservations action scope_type list) c k =
        reserving-keeps action scope_type list k
    operation-keeps _ c k = λ _. same state i

    pub step-keeps : CommandsHaveTheirClass → (cdb data_out : List ℕ)
        → is_of_list_kind kind (command_of cdb) data_out ≡ true
        → KeepsWhere (step state j cdb data_out).state
    step-keeps classes cdb data_out of_kind =
        lifted state j cdb data_out (λ (done : Step). KeepsWhere done.state)
        (λ refusal _. refused-keeps state i j other refusal)
        (λ operation k met.
        let kept = outcome-keeps (effect_of state j operation) (operation-keeps operation
        (asked-is-allowed state j classes cdb data_out operation Writes k no_writes)
        (asked-fits (config_of state) k.command data_out operation k.operation_is kind
        (sym (ap (λ (p : Result Command CdbFault). is_of_list_kind kind p data_out) k.command_is)
        ∙ of_kind))) met in
        by-no-alert (λ (after : State). Keeps state after i) state j _
        (ap (λ (v : View). v.disk) kept.left.view) kept)

-- any PERSISTENT RESERVE OUT
abbrev pub any_kind : OutAction → OutList → Bool
any_kind action list = true

pub of-any-kind : (parsed : Result Command CdbFault) (data_out : List ℕ)
    → is_of_list_kind any_kind parsed data_out ≡ true
of-any-kind (Ok (PersistentReserveOut c)) data_out = refl
of-any-kind (Ok _) data_out = refl
of-any-kind (Err fault) data_out = refl

-- ---- Where i holds a reservation alone

-- The command is of another initiator j than i, the one holder of a reservation.
module _ (state : State) (i j : ℕ) (other : j ≡ i → ⊥) (h : HoldsAlone state.reservations i)
    (w : IsWithinLimits state) where
  -- i is the one holder afterwards
  abbrev IsOneHolder : ReservationState → Type 0
  IsOneHolder after = is_one_holder after.reservation i ≡ true

  abbrev HolderKeeps : Result Effect Refusal → Type 0
  HolderKeeps effect = EffectKeeps IsOneHolder state i j other effect

  abbrev P : ReservationChange → Type 0
  P = IsLeftIfHolder state.reservations.registrations (held_by h.kind i) i j

  changing-keeps : (o : Outcome) → EffectIs P o
      → HolderKeeps (when_sound (result_map_both (λ change. change) out_refusal o)
      (changing_reservations state j))
  changing-keeps (Ok change) k = λ one.
      let left = k.shown change refl one in
      changed-keeps state i j w change left.key (left.reservation ∙ sym h.reservation_is) left.unraised
  changing-keeps (Err fault) k = tt

  out-leaves : (action : OutAction) (scope_type : ℕ) (list : OutList)
      → EffectIs P (outcome (rules_for state) state.reservations j action scope_type list)
  out-leaves action scope_type list =
      let rs = state.reservations.registrations in
      let is : alone_in rs h.kind i state.reservations ≡ state.reservations =
      λ d. record state.reservations { reservation = sym h.reservation_is d } in
      subst (λ (r : ReservationState). EffectIs P (outcome (rules_for state) r j action scope_type list))
      is
      (outcome_leaves (rules_for state) rs h.kind state.reservations i j action scope_type list h.registered
      (ne_eqb j i other))

  reserving-keeps : (action : OutAction) (scope_type : ℕ) (list : OutList)
      → HolderKeeps (when_sound (reservation_change state j action scope_type list)
      (changing_reservations state j))
  unfolding reservation_change
  reserving-keeps action scope_type list =
      changing-keeps (outcome (rules_for state) state.reservations j action scope_type list)
      (out-leaves action scope_type list)

-- a command of another, after which i still holds
pub others-keep : LimitsAreKept → OthersAreRefused → CommandsHaveTheirClass
    → (state : State) (i j : ℕ) (cdb data_out : List ℕ) → IsWithinLimits state → (j ≡ i → ⊥)
    → holds_alone state i ≡ true
    → holds_alone (step state j cdb data_out).state i ≡ true
    → Keeps state (step state j cdb data_out).state i
others-keep limits refuses classes state i j cdb data_out w other before after =
    let done = (step state j cdb data_out).state in
    let still = alone done i (limits.command state j cdb data_out w) after in
    let h = alone state i w before in
    step-keeps (IsOneHolder state i j other h w) state i j other
    (refuses-others refuses state.reservations i j other h).writes any_kind
    (λ action scope_type list _. reserving-keeps state i j other h w action scope_type list) classes cdb
    data_out (of-any-kind (command_of cdb) data_out) (one-holder done.reservations i still)
