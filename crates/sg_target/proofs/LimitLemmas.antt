-- No command takes a table of the disk past its limit.
use Rattle.std.proofs.Common.{◌≡◌, ℕ, List}
use Rattle.std.proofs.Common.{Bool, true, false, Result, Ok, Err, refl, subst, sym}
use Rattle.sg_wire.specs.declared.command.out_action.OutAction.{OutAction}
use Rattle.sg_wire.specs.Profile.{rules_of}
use Rattle.sg_pages.specs.ModeSelect.{changed_by}
use Rattle.sg_pages.specs.declared.provisioning_pages.MappingResources.{MappingResources}
use Rattle.sg_units.specs.Attentions.{ArePending, Pending, without_oldest}
use Rattle.sg_units.specs.Laws.{QueuesKeepTheirLimits, ReservationsStayConsistent}
use Rattle.sg_units.specs.Raised.{Conditions, raised_for_all, raised_for_members, raised_for_others}
use Rattle.sg_units.specs.ReserveOut.{Outcome, outcome, raised_by}
use Rattle.sg_units.specs.Reservations.{IsConsistent}
use Rattle.sg_wire.specs.declared.out_list.OutList.{OutList}
use Rattle.sg_units.specs.declared.reservation_change.ReservationChange.{ReservationChange}
use Rattle.sg_units.specs.declared.unit_attention.UnitAttention.{UnitAttention}
use Rattle.sg_units.specs.declared.unit_attention.UnitAttention.TheVariants as attention
use Rattle.sg_units.specs.declared.unit_attention.UnitAttention.TheVariants.{BusDeviceReset}
use Rattle.sg_units.specs.declared.unit_attention.UnitAttention.TheVariants.{CapacityDataChanged}
use Rattle.sg_units.specs.declared.unit_attention.UnitAttention.TheVariants.{ModeParametersChanged}
use Rattle.sg_units.specs.declared.unit_attention.UnitAttention.TheVariants.{ScsiBusReset}
use Rattle.sg_store.specs.Laws.{DisksStayWellFormed, RemappingTakesWhatIsNeeded}
use Rattle.sg_store.specs.Laws.{UnmapsEachAddress, UnmapsEachBlock}
use Rattle.sg_target.proofs.ArmedLemmas.{attempt-ready, finished-state, of-both}
use Rattle.sg_target.proofs.BlocksLemmas.{KeepsBlocks, Ready, by-checks, cdb-ready, keeps-blocks}
use Rattle.sg_target.proofs.GrowthLemmas.{by-growth}
use Rattle.sg_target.proofs.LiftLemmas.{outcome-by}
use Rattle.sg_target.proofs.Space.{KeepsSpace, keeps-space, by-checks as space-by-checks}
use Rattle.sg_target.specs.Alerts.{alerted, alerted_initiators, has_crossed}
use Rattle.sg_target.specs.Armed.{Armed, armed_step, attempt, marked_by, seen, step_of_checked}
use Rattle.sg_target.specs.Checks.{checked_cdb, checked_effect}
use Rattle.sg_target.specs.Effect.{Effect, returning_up_to}
use Rattle.sg_target.specs.ModeCommands.{attentions_after, changing_modes, mode_parameters}
use Rattle.sg_target.specs.ModeCommands.{selected_modes}
use Rattle.sg_target.specs.Happenings.{after_growth, after_happening, after_reset, with_raised}
use Rattle.sg_target.specs.Refusal.{checked_next, or_refused, when_sound}
use Rattle.sg_target.specs.ReservationCommands.{changing_reservations, out_refusal}
use Rattle.sg_target.specs.ReservationCommands.{reservation_change}
use Rattle.sg_target.specs.Semantics.{effect_of}
use Rattle.sg_target.specs.State.{IsWithinLimits, State, profile_of, resources_of}
use Rattle.sg_target.specs.Step.{Step, outcome as step_outcome, refused, step}
use Rattle.sg_target.specs.declared.happening.Happening.{Happening}
use Rattle.sg_target.specs.declared.happening.Happening.TheVariants.{Power, LogicalUnitReset}
use Rattle.sg_target.specs.declared.happening.Happening.TheVariants.{TargetReset, NexusLoss}
use Rattle.sg_target.specs.declared.happening.Happening.TheVariants.{Establish, Grow}
use Rattle.sg_target.specs.declared.happening.Happening.TheVariants.{Arm, Disarm, DisarmAll}
use Rattle.sg_target.specs.declared.operation.Operation.{Operation}
use Rattle.sg_target.specs.declared.operation.Operation.TheVariants.{ReturnSense, ReturnModes}
use Rattle.sg_target.specs.declared.operation.Operation.TheVariants.{ReturnLuns}
use Rattle.sg_target.specs.declared.operation.Operation.TheVariants.{ChangeModes, ChangeReservations}
use Rattle.sg_target.specs.declared.refusal.Reason.TheVariants.{UnitAttention as Attention}
use Rattle.sg_target.specs.declared.refusal.Refusal.{Refusal}
use Rattle.sg_target.specs.declared.refusal.Refusal.TheVariants.{CheckCondition}

module _ (reservations : ReservationsStayConsistent) (queues : QueuesKeepTheirLimits)
    (disks : DisksStayWellFormed) (law : RemappingTakesWhatIsNeeded) (addresses : UnmapsEachAddress)
    (zeros : UnmapsEachBlock) where
  attentions-after : (pending : Pending) (i : ℕ) (changed : Bool) → ArePending pending
      → ArePending (attentions_after pending i changed)
  attentions-after pending i true h = queues.raised pending (raised_for_others i ModeParametersChanged) h
  attentions-after pending i false h = h

  -- ---- commands

  without-oldest-within : (state : State) (i : ℕ) → IsWithinLimits state
      → IsWithinLimits (record state { attentions = without_oldest state.attentions i })
  without-oldest-within state i h =
      record {
        used = h.used;
        pending = queues.cleared state.attentions i h.pending;
        registered = h.registered;
        blocks = h.blocks;
      }

  refused-within : (state : State) (i : ℕ) (refusal : Refusal) → IsWithinLimits state
      → IsWithinLimits (refused state i refusal).state
  refused-within state i (CheckCondition (Attention condition)) h = without-oldest-within state i h
  refused-within state i _ h = h

  -- the tables except the mapped blocks
  abbrev KeepsOthers : State → Type 0
  KeepsOthers state = ArePending state.attentions × IsConsistent state.reservations

  pub others : (state : State) → IsWithinLimits state → KeepsOthers state
  others state h = (h.pending, h.registered)

  -- an effect, if there is one, keeps them
  abbrev EffectKeeps : Result Effect Refusal → Type 0
  EffectKeeps (Ok effect) = KeepsOthers effect.after
  EffectKeeps (Err refusal) = Unit {0}

  sound-keeps : {A : Type 0} (sound : Result A Refusal) (becomes : A → Effect)
      → ((value : A) → sound ≡ Ok value → KeepsOthers (becomes value).after)
      → EffectKeeps (when_sound sound becomes)
  sound-keeps (Ok value) becomes h = h value refl
  sound-keeps (Err refusal) becomes h = tt

  pub changed : (state : State) (o : Outcome) (change : ReservationChange)
      → or_refused out_refusal o ≡ Ok change → o ≡ Ok change
  changed state (Ok change) other e = cc
  changed state (Err fault) other e = cc

  changing-keeps : (state : State) (i : ℕ) (action : OutAction) (scope_type : ℕ) (list : OutList)
      (change : ReservationChange) → KeepsOthers state
      → reservation_change state i action scope_type list ≡ Ok change
      → KeepsOthers (changing_reservations state i change).after
  unfolding reservation_change
  changing-keeps state i action scope_type list change h e =
      let raised = raised_by state.reservations.registrations i change in
      let rules = rules_of (profile_of state) in
      let o = outcome rules state.reservations i action scope_type list in (
        queues.raised state.attentions raised h.0,
        reservations.changed rules state.reservations i action scope_type list change h.1
            (changed state o change e),
      )

  operation-keeps : (state : State) (i : ℕ) (operation : Operation) → KeepsOthers state
      → EffectKeeps (effect_of state i operation)
  operation-keeps state i (ReturnSense format n) h = (queues.cleared state.attentions i h.0, h.1)
  operation-keeps state i (ReturnLuns listed n) h =
      (queues.without state.attentions i attention.ReportedLunsDataChanged h.0, h.1)
  operation-keeps state i (ReturnModes request n) h =
      sound-keeps (mode_parameters state.modes request) (returning_up_to state n) (λ list e. h)
  operation-keeps state i (ChangeModes width sp list) h =
      sound-keeps (selected_modes state width sp list) (changing_modes state i)
      (λ modes e. (attentions-after state.attentions i (changed_by state.modes modes).0 h.0, h.1))
  operation-keeps state i (ChangeReservations action scope_type list) h =
      sound-keeps (reservation_change state i action scope_type list) (changing_reservations state i)
      (λ change e. changing-keeps state i action scope_type list change h e)
  operation-keeps state i _ h = h

  pub checked-keeps : (state : State) (i : ℕ) (checked : Result Operation Refusal) → KeepsOthers state
      → EffectKeeps (checked_next checked (effect_of state i))
  checked-keeps state i (Ok operation) h = operation-keeps state i operation h
  checked-keeps state i (Err refusal) h = tt

  pub outcome-within : (state : State) (i : ℕ) (effect : Result Effect Refusal) → IsWithinLimits state
      → EffectKeeps effect → KeepsBlocks effect → KeepsSpace law addresses zeros effect
      → IsWithinLimits (step_outcome state i effect).state
  outcome-within state i (Err refusal) h k blocks space = refused-within state i refusal h
  outcome-within state i (Ok effect) h k blocks space =
      outcome-by state i (λ (done : Step). IsWithinLimits done.state) effect
      (λ refusal. refused-within state i refusal h)
      (λ none. record { used = space none; pending = k.0; registered = k.1; blocks = blocks })

  alerted-within : (before : MappingResources) (i : ℕ) (after : State) → IsWithinLimits after
      → IsWithinLimits (alerted before i after)
  alerted-within before i after h = record {
    used = h.used;
    pending =
        of-both ArePending (has_crossed before after)
        (queues.raised after.attentions
        (raised_for_members (alerted_initiators after.modes.current i) attention.SoftThresholdReached)
        h.pending)
        h.pending;
    registered = h.registered;
    blocks = h.blocks;
  }

  pub step-within : (state : State) (i : ℕ) (cdb data_out : List ℕ) → IsWithinLimits state
      → IsWithinLimits (step state i cdb data_out).state
  step-within state i cdb data_out h =
      alerted-within (resources_of state) i _
      (outcome-within state i (checked_effect state i cdb data_out) h
      (checked-keeps state i (checked_cdb state i cdb data_out) (others state h))
      (keeps-blocks disks state i cdb data_out h.blocks)
      (keeps-space law addresses zeros state i cdb data_out h.used))

  -- the same on a disk with armed faults
  attempt-within : (state : State) (i : ℕ) (checked : Result Operation Refusal) → IsWithinLimits state
      → Ready state checked → IsWithinLimits (step_of_checked state i checked).state
  attempt-within state i checked h ready =
      alerted-within (resources_of state) i _
      (outcome-within state i (checked_next checked (effect_of state i)) h
      (checked-keeps state i checked (others state h)) (by-checks disks state i checked h.blocks ready)
      (space-by-checks law addresses zeros state i checked h.used))

  pub armed-within : (disk : Armed) (i : ℕ) (cdb data_out : List ℕ) → IsWithinLimits disk.state
      → IsWithinLimits (armed_step disk i cdb data_out).after.state
  armed-within disk i cdb data_out h =
      let checked = checked_cdb disk.state i cdb data_out in
      let command = seen i cdb checked in
      let tried = attempt disk.faults command checked in
      let done = step_of_checked disk.state i tried.result in
      subst IsWithinLimits
      (sym (finished-state done.answer.status (marked_by tried.result) (seen i cdb tried.result)
      tried.faults done))
      (attempt-within disk.state i tried.result h
      (attempt-ready disk.state disk.faults command checked (cdb-ready disk.state i cdb data_out)))

  raised-within : (state : State) (conditions : Conditions) → IsWithinLimits state
      → IsWithinLimits (with_raised state conditions)
  raised-within state conditions h = record {
    used = h.used;
    pending = queues.raised state.attentions conditions h.pending;
    registered = h.registered;
    blocks = h.blocks;
  }

  reset-within : (state : State) (condition : UnitAttention) → IsWithinLimits state
      → IsWithinLimits (after_reset condition state)
  reset-within state condition h =
      let within = raised-within state (raised_for_all condition) h in
      record {
        used = within.used;
        pending = within.pending;
        registered = within.registered;
        blocks = within.blocks;
      }

  growth-within : (state : State) (capacity : ℕ) → IsWithinLimits state
      → IsWithinLimits (after_growth capacity state)
  growth-within state capacity h =
      by-growth IsWithinLimits capacity state
      (λ more fits.
      let within = raised-within state (raised_for_all CapacityDataChanged) h in
      record {
        used = within.used;
        pending = within.pending;
        registered = within.registered;
        blocks =
            disks.growing state.disk.capacity capacity state.disk.contents h.blocks more;
      }) h

  pub happening-within : (happening : Happening) (state : State) → IsWithinLimits state
      → IsWithinLimits (after_happening happening state)
  happening-within Power state h = record {
    used = h.used;
    pending = queues.power_cycle;
    registered = reservations.power_cycle state.reservations h.registered;
    blocks = h.blocks;
  }
  happening-within LogicalUnitReset state h = reset-within state BusDeviceReset h
  happening-within TargetReset state h = reset-within state ScsiBusReset h
  happening-within (NexusLoss initiator) state h = record {
    used = h.used;
    pending = queues.one_raised state.attentions initiator attention.NexusLoss h.pending;
    registered = h.registered;
    blocks = h.blocks;
  }
  happening-within (Establish condition initiators) state h =
      raised-within state (raised_for_members initiators condition) h
  happening-within (Grow capacity) state h = growth-within state capacity h
  happening-within (Arm fault) state h = h
  happening-within (Disarm number) state h = h
  happening-within DisarmAll state h = h
