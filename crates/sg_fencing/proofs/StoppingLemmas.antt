-- What stops and starts the unit, and what a stopped unit does.
use Rattle.std.proofs.Common.{◌≡◌, ℕ, Bool, true, false, cond, ◌&&◌, ◌==◌, List, [], ◌∷◌, Option}
use Rattle.std.proofs.Common.{Some, None, Result, Ok, Err, refl, sym, ap, ◌∙◌, subst}
use Rattle.std.specs.Prelude.{ok_or, if◌then◌else◌, not}
use Rattle.std.proofs.lemmas.Bool.{false≢true}
use Rattle.sg_wire.specs.CdbDecoding.{command_in}
use Rattle.std.specs.Option.{option_map_or}
use Rattle.sg_wire.specs.FirstBytes.{first_bytes}
use Rattle.sg_wire.specs.Profile.{rules_of}
use Rattle.sg_wire.specs.Laws.{ProfilesAreClosed, has_command}
use Rattle.sg_wire.specs.SupportedOperations.{requested_report}
use Rattle.sg_wire.specs.declared.command.CdbFault.{CdbFault}
use Rattle.sg_wire.specs.declared.command.Command.{Command}
use Rattle.sg_wire.specs.declared.command.Command.TheVariants as command
use Rattle.sg_copy.specs.declared.copy_list.Segment.{Segment}
use Rattle.sg_wire.specs.declared.command.copy.ExtendedCopy.{ExtendedCopy}
use Rattle.sg_wire.specs.declared.command.format.FormatUnit.{FormatUnit}
use Rattle.sg_wire.specs.declared.command.start_stop.StartStopUnit.{StartStopUnit}
use Rattle.sg_wire.specs.declared.command.verify.ByteCheck.{ByteCheck}
use Rattle.sg_wire.specs.declared.command.verify.ByteCheck.TheVariants as check
use Rattle.sg_wire.specs.declared.extent.Extent.{Extent}
use Rattle.sg_wire.specs.declared.profile.Profile.TheVariants.{Base}
use Rattle.sg_store.specs.Disk.{Contents}
use Rattle.sg_pages.specs.BlockDescriptor.{logical_block_length}
use Rattle.sg_pages.specs.Reports.{extended_header_asked, lists_unit, log_page_with}
use Rattle.sg_pages.specs.declared.reports.Report.TheVariants as report
use Rattle.sg_target.specs.Charge.{step_by}
use Rattle.sg_target.specs.Checks.{not_ready}
use Rattle.sg_target.specs.Config.{ConfigFields}
use Rattle.sg_target.specs.Demands.{demands, extent, takes, too_long, unmap_extent, unmap_extents}
use Rattle.sg_target.specs.CopyRequest.{copy_asked, list_asked}
use Rattle.sg_target.specs.Demands.{extents_out, list_refusal, verify, verify_only}
use Rattle.sg_target.specs.Effect.{Effect, returning_up_to, with_contents}
use Rattle.sg_target.specs.Happenings.{after_happening}
use Rattle.sg_target.specs.Laws.{ConfigurationStays}
use Rattle.sg_target.specs.ModeCommands.{changing_modes, mode_parameters, selected_modes}
use Rattle.sg_target.specs.PrimaryCommands.{inquiry_page}
use Rattle.sg_target.specs.ProvisioningCommands.{block_out, same_block, unmaps}
use Rattle.sg_target.specs.Refusal.{first_some, or_refused, unless_refused, when_sound}
use Rattle.sg_target.specs.ReservationCommands.{changing_reservations, fields_out, reservation_change}
use Rattle.sg_target.specs.Runs.{step_of}
use Rattle.sg_target.specs.Semantics.{effect_of, medium_use}
use Rattle.sg_target.specs.State.{State, config_of, profile_of}
use Rattle.sg_target.specs.Step.{Step, outcome, refused, step}
use Rattle.sg_target.specs.declared.event.Event.TheVariants as event
use Rattle.sg_target.specs.declared.happening.Happening.{Happening}
use Rattle.sg_target.specs.declared.happening.Happening.TheVariants.{Power, LogicalUnitReset}
use Rattle.sg_target.specs.declared.happening.Happening.TheVariants.{TargetReset, Grow}
use Rattle.sg_target.specs.declared.operation.Operation.{Operation}
use Rattle.sg_target.specs.declared.operation.Operation.TheVariants.{ChangeModes, ReturnModes}
use Rattle.sg_target.specs.declared.operation.Operation.TheVariants.{ChangeReservations, CompareEach, Copy}
use Rattle.sg_target.specs.declared.operation.Operation.TheVariants.{Fill, Nothing, ReturnInquiry}
use Rattle.sg_target.specs.declared.operation.Operation.TheVariants.{ReturnLuns, ReturnReport, StartStop}
use Rattle.sg_target.specs.declared.operation.Operation.TheVariants.{UnmapAll}
use Rattle.sg_target.specs.declared.refusal.Reason.TheVariants.{InvalidFieldInCdb}
use Rattle.sg_target.specs.declared.refusal.Reason.TheVariants.{UnitAttention as Attention}
use Rattle.sg_target.specs.declared.refusal.Refusal.{Refusal}
use Rattle.sg_target.specs.declared.refusal.Refusal.TheVariants.{CheckCondition}
use Rattle.sg_target.specs.declared.reply.Status.TheVariants.{Good}
use Rattle.sg_target.proofs.GrowthLemmas.{by-growth}
use Rattle.sg_target.proofs.LiftLemmas.{Asked, lifted, lifted-both, not_good, outcome-by}
use Rattle.sg_fencing.specs.Stopping.{BaseDisksAreNeverStopped, OnlyStartStopUnitStops}
use Rattle.sg_fencing.specs.Stopping.{StoppedUnitsAreIdle, is_start_stop, starts_unit}
use Rattle.sg_fencing.proofs.DiskLemmas.{changes-none, effect-leaves, operation-leaves, refused-leaves}
use Rattle.sg_fencing.specs.Fencing.{CountsAsMany}
use Rattle.sg_fencing.proofs.AccessLemmas.{asked-number}
use Rattle.sg_fencing.proofs.OperationLemmas.{shows_number}
use Rattle.sg_fencing.proofs.UnseenLemmas.{operation-alike, parse-same, sound-alike}
use Rattle.std.specs.FinMap.{len}
use Rattle.sg_target.proofs.AlertLemmas.{no-alert}

-- ---- The command that asks to stop or to start

abbrev changes_stopped : Operation → Bool
changes_stopped (StartStop start) = true
changes_stopped _ = false

record StopsIf (command : Command) (operation : Operation) : Type 0 where
  stops : is_start_stop (Ok command) ≡ changes_stopped operation

abbrev StopsIfAsked : Command → Result Operation Refusal → Type 0
StopsIfAsked command (Ok operation) = StopsIf command operation
StopsIfAsked command (Err refusal) = Unit {0}

sound-stops : {A : Type 0} (command : Command) (sound : Result A Refusal) (becomes : A → Operation)
    → ((value : A) → StopsIf command (becomes value)) → StopsIfAsked command (when_sound sound becomes)
sound-stops command (Ok value) becomes h = h value
sound-stops command (Err refusal) becomes h = tt

same-stops : (command : Command) → is_start_stop (Ok command) ≡ false → (anchor is_unmapped : Bool)
    (extent : Extent) (block : List ℕ)
    → StopsIf command (if is_unmapped then unmap_extent anchor extent else Fill extent block)
same-stops command h true true extent block = record { stops = h }
same-stops command h false true extent block = record { stops = h }
same-stops command h anchor false extent block = record { stops = h }

unmap-stops : (command : Command) → is_start_stop (Ok command) ≡ false → (anchor : Bool)
    (extents : List Extent) → StopsIf command (unmap_extents anchor extents)
unmap-stops command h true extents = record { stops = h }
unmap-stops command h false extents = record { stops = h }

format-stops : (c : FormatUnit) (refused : Option Refusal) (blocks : ℕ)
    → StopsIfAsked (command.FormatUnit c) (unless_refused refused (Ok (UnmapAll blocks)))
format-stops c None blocks = record { stops = refl }
format-stops c (Some refusal) blocks = tt

module _ (command : Command) (h : is_start_stop (Ok command) ≡ false) (config : ConfigFields)
    (extent : Extent) (byte : ℕ) where
  each-stops : (block : List ℕ) (none : Bool)
      → StopsIfAsked command (cond none (verify_only config extent byte)
      (takes config logical_block_length (too_long config extent.count byte)
      (Ok (CompareEach extent block)))).operation
  each-stops block true = record { stops = h }
  each-stops block false = record { stops = h }

  verify-stops : (check : ByteCheck) (data_out : List ℕ)
      → StopsIfAsked command (verify config check extent byte data_out).operation
  verify-stops check.Nothing data_out = record { stops = h }
  verify-stops check.Reserved data_out = record { stops = h }
  verify-stops check.DataOut data_out = record { stops = h }
  verify-stops check.OneBlock data_out = each-stops (block_out data_out) (extent.count == 0)

copy-stops : (c : ExtendedCopy) (segment : Option Segment)
    → StopsIf (command.ExtendedCopy c) (option_map_or Copy segment Nothing)
copy-stops c (Some segment) = record { stops = refl }
copy-stops c None = record { stops = refl }

stops-if : (config : ConfigFields) (command : Command) (data_out : List ℕ)
    → StopsIfAsked command (demands config command data_out).operation
stops-if config (command.Inquiry c) data_out =
    sound-stops (command.Inquiry c)
    (ok_or (inquiry_page config.identity.profile c.evpd c.page_code)
    (CheckCondition (InvalidFieldInCdb 2)))
    (λ page. ReturnInquiry page c.allocation_length) (λ page. record { stops = refl })
stops-if config (command.Verify10 c) data_out =
    verify-stops (command.Verify10 c) refl config (extent c.extent.lba c.extent.count) 7 c.byte_check
    data_out
stops-if config (command.Verify12 c) data_out =
    verify-stops (command.Verify12 c) refl config (extent c.extent.lba c.extent.count) 6 c.byte_check
    data_out
stops-if config (command.Verify16 c) data_out =
    verify-stops (command.Verify16 c) refl config (extent c.extent.lba c.extent.count) 10 c.byte_check
    data_out
stops-if config (command.LogSense c) data_out =
    sound-stops (command.LogSense c)
    (or_refused (λ byte. CheckCondition (InvalidFieldInCdb byte))
    (log_page_with c.page_code c.subpage_code c.parameter_pointer))
    (λ page. ReturnReport (report.Log page c.parameter_pointer) c.allocation_length)
    (λ page. record { stops = refl })
stops-if config (command.ReportSupportedOperationCodes c) data_out =
    sound-stops (command.ReportSupportedOperationCodes c)
    (ok_or (requested_report config.identity.profile c) (CheckCondition (InvalidFieldInCdb 2)))
    (λ requested. ReturnReport (report.Commands requested) c.allocation_length)
    (λ requested. record { stops = refl })
stops-if config (command.ReportTargetPortGroups c) data_out =
    sound-stops (command.ReportTargetPortGroups c)
    (ok_or (extended_header_asked c.format) (CheckCondition (InvalidFieldInCdb 1)))
    (λ header. ReturnReport (report.TargetPortGroups header) c.allocation_length)
    (λ header. record { stops = refl })
stops-if config (command.ReportLuns c) data_out =
    sound-stops (command.ReportLuns c)
    (ok_or (lists_unit c.select) (CheckCondition (InvalidFieldInCdb 2)))
    (λ listed. ReturnLuns listed c.allocation_length) (λ listed. record { stops = refl })
stops-if config (command.WriteSame10 c) data_out =
    same-stops (command.WriteSame10 c) refl c.anchor (unmaps c.unmap (block_out data_out)) _
    (block_out data_out)
stops-if config (command.WriteSame16 c) data_out =
    same-stops (command.WriteSame16 c) refl c.anchor (unmaps c.unmap (same_block c.ndob data_out)) _
    (same_block c.ndob data_out)
stops-if config (command.ExtendedCopy c) data_out =
    sound-stops (command.ExtendedCopy c) (list_asked config (first_bytes c.list_length data_out)) copy_asked
    (λ list. copy-stops c list.segment)
stops-if config (command.FormatUnit c) data_out =
    format-stops c (list_refusal c data_out) config.blocks
stops-if config (command.Unmap c) data_out =
    sound-stops (command.Unmap c) (extents_out config c.list_length data_out)
    (unmap_extents c.anchor) (unmap-stops (command.Unmap c) refl c.anchor)
stops-if config (command.PersistentReserveOut c) data_out =
    sound-stops (command.PersistentReserveOut c)
    (fields_out (rules_of config.identity.profile) c.action
    (first_bytes c.list_length data_out)) (ChangeReservations c.action c.scope_type)
    (λ list. record { stops = refl })
stops-if config other data_out = record { stops = refl }

asked-stops : (config : ConfigFields) (command : Command) (data_out : List ℕ) (operation : Operation)
    → (demands config command data_out).operation ≡ Ok operation → StopsIf command operation
asked-stops config command data_out operation e =
    subst (StopsIfAsked command) e (stops-if config command data_out)

-- ---- Commands

abbrev KeepsStopped : State → State → Type 0
KeepsStopped state after = after.stopped ≡ state.stopped

abbrev EffectKeeps : State → Result Effect Refusal → Type 0
EffectKeeps state (Ok effect) = KeepsStopped state effect.after
EffectKeeps state (Err refusal) = Unit {0}

sound-keeps : {A : Type 0} (state : State) (sound : Result A Refusal) (becomes : A → Effect)
    → ((value : A) → KeepsStopped state (becomes value).after)
    → EffectKeeps state (when_sound sound becomes)
sound-keeps state (Ok value) becomes h = h value
sound-keeps state (Err refusal) becomes h = tt

operation-keeps : (state : State) (i : ℕ) (operation : Operation) → changes_stopped operation ≡ false
    → EffectKeeps state (effect_of state i operation)
operation-keeps state i (StartStop start) h = cc
operation-keeps state i (ReturnModes request n) h =
    sound-keeps state (mode_parameters state.modes request) (returning_up_to state n) (λ list. refl)
operation-keeps state i (ChangeModes width sp list) h =
    sound-keeps state (selected_modes state width sp list) (changing_modes state i) (λ modes. refl)
operation-keeps state i (ChangeReservations action scope_type list) h =
    sound-keeps state (reservation_change state i action scope_type list)
    (changing_reservations state i) (λ change. refl)
operation-keeps state i _ h = refl

refused-keeps : (state : State) (i : ℕ) (refusal : Refusal)
    → KeepsStopped state (refused state i refusal).state
refused-keeps state i (CheckCondition (Attention condition)) = refl
refused-keeps state i _ = refl

outcome-keeps : (state : State) (i : ℕ) (effect : Result Effect Refusal) → EffectKeeps state effect
    → KeepsStopped state (outcome state i effect).state
outcome-keeps state i (Ok effect) h =
    outcome-by state i (λ (done : Step). KeepsStopped state done.state) effect (refused-keeps state i)
    (λ none. h)
outcome-keeps state i (Err refusal) h = refused-keeps state i refusal

same-command : (read : Result Command CdbFault) (first second : Command) → read ≡ Ok first
    → read ≡ Ok second → first ≡ second
same-command read first second e f = cc

others-stay : (state : State) (i : ℕ) (cdb data_out : List ℕ)
    → is_start_stop (command_in (profile_of state) cdb) ≡ false
    → (step state i cdb data_out).state.stopped ≡ state.stopped
others-stay state i cdb data_out other =
    lifted state i cdb data_out (λ (done : Step). KeepsStopped state done.state)
    (refused-keeps state i)
    (λ operation k.
    let asked = asked-stops (config_of state) k.command data_out operation k.operation_is in
    outcome-keeps state i (effect_of state i operation)
    (operation-keeps state i operation
    (sym asked.stops ∙ (sym (ap is_start_stop k.read_as) ∙ other))))

-- START STOP UNIT itself
abbrev DoneIfGood : State → StartStopUnit → Step → Type 0
DoneIfGood state c done =
    done.answer.status ≡ Good → done.state ≡ record state { stopped = not c.start }

ok-same : (found : Result Operation Refusal) (first second : Operation) → found ≡ Ok first
    → found ≡ Ok second → first ≡ second
ok-same found first second e f = cc

asked-start : (config : ConfigFields) (read : Command) (data_out : List ℕ) (c : StartStopUnit)
    (operation : Operation) → command.StartStopUnit c ≡ read
    → (demands config read data_out).operation ≡ Ok operation → StartStop c.start ≡ operation
asked-start config read data_out c operation is e =
    ok-same (demands config read data_out).operation (StartStop c.start) operation
    (ap (λ (d : Command). (demands config d data_out).operation) (sym is)) e

good-stops : (state : State) (i : ℕ) (cdb data_out : List ℕ) (c : StartStopUnit)
    → command_in (profile_of state) cdb ≡ Ok (command.StartStopUnit c)
    → DoneIfGood state c (step state i cdb data_out)
good-stops state i cdb data_out c e =
    lifted state i cdb data_out (DoneIfGood state c)
    (λ refusal good. absurd (not_good state i refusal good))
    (λ operation k. subst (λ (o : Operation). DoneIfGood state c (step_by state i o))
    (asked-start (config_of state) k.command data_out c operation
    (same-command (command_in (profile_of state) cdb) (command.StartStopUnit c) k.command e k.read_as)
    k.operation_is)
    (λ good. no-alert state i (record state { stopped = not c.start }) refl))

-- ---- Happenings

happening-keeps : (happening : Happening) (state : State) → starts_unit happening ≡ false
    → (after_happening happening state).stopped ≡ state.stopped
happening-keeps Power state h = cc
happening-keeps LogicalUnitReset state h = cc
happening-keeps TargetReset state h = cc
happening-keeps (Grow capacity) state h =
    by-growth (λ after. after.stopped ≡ state.stopped) capacity state (λ more fits. refl) refl
happening-keeps _ state h = refl

happening-starts : (happening : Happening) (state : State) → starts_unit happening ≡ true
    → (after_happening happening state).stopped ≡ false
happening-starts Power state h = refl
happening-starts LogicalUnitReset state h = refl
happening-starts TargetReset state h = refl
happening-starts _ state h = cc

pub only-start-stop : OnlyStartStopUnitStops
only-start-stop = record {
  good = good-stops;
  others = others-stay;
  happening = happening-keeps;
  started = happening-starts;
}

-- ---- A base disk

base-lacks : (read : Result Command CdbFault)
    → ((c : Command) → read ≡ Ok c → has_command Base c ≡ true) → is_start_stop read ≡ false
base-lacks (Ok (command.StartStopUnit c)) has = absurd (false≢true (has (command.StartStopUnit c) refl))
base-lacks (Ok _) has = refl
base-lacks (Err fault) has = refl

still-started : (happening : Happening) (state : State) → state.stopped ≡ false
    → (after_happening happening state).stopped ≡ false
still-started Power state h = refl
still-started LogicalUnitReset state h = refl
still-started TargetReset state h = refl
still-started (Grow capacity) state h =
    by-growth (λ after. after.stopped ≡ false) capacity state (λ more fits. h) h
still-started _ state h = h

pub never-stopped : ProfilesAreClosed → ConfigurationStays → BaseDisksAreNeverStopped
never-stopped closed stays state [] base h = h
never-stopped closed stays state (event.Call call ∷ events) base h =
    let i = call.initiator in
    let cdb = call.cdb.now in
    let data_out = call.data_out.now in
    let lacks = base-lacks (command_in (profile_of state) cdb)
    (λ c e. ap (λ p. has_command p c) (sym base) ∙ closed (profile_of state) cdb c e) in
    never-stopped closed stays (step_of state call).state events
    (ap (λ (config : ConfigFields). config.identity.profile) (stays.command state i cdb data_out) ∙ base)
    (others-stay state i cdb data_out lacks ∙ h)
never-stopped closed stays state (event.Happen happening ∷ events) base h =
    never-stopped closed stays (after_happening happening state) events
    (ap (λ identity. identity.profile) (stays.growth happening state).identity ∙ base)
    (still-started happening state h)

-- ---- A stopped unit

none-first : {A : Type 0} (first : Option A) (rest : List (Option A)) → first_some (first ∷ rest) ≡ None
    → first ≡ None
none-first None rest e = refl
none-first (Some x) rest e = cc

none-if : (b : Bool) (refusal : Refusal) → (if b then Some refusal else None) ≡ None → b ≡ false
none-if true refusal e = cc
none-if false refusal e = refl

-- an operation that passes the checks of a stopped unit needs no unit that is ready
asked-idle : (state : State) (i : ℕ) (cdb data_out : List ℕ) (operation : Operation)
    → Asked state i cdb data_out operation → state.stopped ≡ true
    → (medium_use operation).needs_ready ≡ false
asked-idle state i cdb data_out operation k stopped =
    let medium = medium_use operation in
    let none = none-if (state.stopped && medium.needs_ready) _
    (none-first (not_ready state medium) _ k.on_medium) in
    ap (λ b. b && medium.needs_ready) (sym stopped) ∙ none

-- so it does not write
idle-writes : (operation : Operation) → (medium_use operation).needs_ready ≡ false
    → (medium_use operation).writes ≡ false
idle-writes Nothing h = refl
idle-writes _ h = cc

disk-stays : (state : State) (i : ℕ) (cdb data_out : List ℕ) → state.stopped ≡ true
    → (step state i cdb data_out).state.disk ≡ state.disk
disk-stays state i cdb data_out stopped =
    lifted state i cdb data_out (λ (done : Step). done.state.disk ≡ state.disk)
    (refused-leaves state i)
    (λ operation k. effect-leaves state i (effect_of state i operation)
    (operation-leaves state i operation (changes-none operation
    (idle-writes operation (asked-idle state i cdb data_out operation k stopped)))))

-- and its answer does not depend on the blocks
module _ (s : State) (x : Contents) (i : ℕ) where
  abbrev t : State
  t = with_contents s x

  idle-alike : (operation : Operation) → (medium_use operation).needs_ready ≡ false
      → (shows_number operation ≡ true → len x ≡ len s.disk.contents)
      → (step_by s i operation).answer ≡ (step_by t i operation).answer
  unfolding selected_modes
  idle-alike (StartStop start) h same = refl
  idle-alike (ChangeModes width sp list) h same =
      sound-alike s x i (selected_modes s width sp list) (changing_modes s i) (changing_modes t i)
      (λ modes. refl)
  idle-alike operation h same =
      operation-alike s x i operation (λ reads. cc) (λ writes. cc) same

  answer-stays : (cdb data_out : List ℕ) → s.stopped ≡ true → CountsAsMany s x cdb
      → (step t i cdb data_out).answer ≡ (step s i cdb data_out).answer
  answer-stays cdb data_out stopped none =
      sym (lifted-both s t i cdb data_out refl refl (parse-same s x i data_out)
      (λ (first second : Step). first.answer ≡ second.answer) (λ refusal. refl)
      (λ operation k. idle-alike operation (asked-idle s i cdb data_out operation k stopped)
      (asked-number s i x cdb data_out none operation k)))

pub idle-units : StoppedUnitsAreIdle
idle-units = record {
  disk = disk-stays;
  answer = λ state contents i cdb data_out stopped none.
      answer-stays state contents i cdb data_out stopped none;
}
