-- Lists of events on a disk with armed faults.
use Rattle.std.proofs.Common.{◌≡◌, ◌⊎◌, inl, inr, ℕ, suc, true, false, List, [], ◌∷◌}
use Rattle.std.proofs.Common.{Some, Result, Ok, refl, sym, ap, ◌∙◌, subst}
use Rattle.std.proofs.lemmas.Bool.{false_from_ne_true, false≢true}
use Rattle.sg_wire.specs.CdbDecoding.{command_of}
use Rattle.sg_wire.specs.Laws.{CommandsHaveTheirClass}
use Rattle.sg_units.specs.Laws.{OneKeyEach, OthersAreRefused}
use Rattle.sg_wire.specs.FirstBytes.{first_bytes}
use Rattle.sg_wire.specs.OutList.{list_of as out_list_of}
use Rattle.sg_wire.specs.Profile.{rules_of}
use Rattle.sg_target.specs.ReservationCommands.{has_list_length}
use Rattle.sg_wire.specs.declared.command.CdbFault.{CdbFault}
use Rattle.sg_wire.specs.declared.command.Command.{Command}
use Rattle.sg_wire.specs.declared.command.Command.TheVariants.{PersistentReserveOut}
use Rattle.sg_target.specs.Armed.{Armed, first_blocks, step_of_checked}
use Rattle.sg_target.specs.Config.{ConfigFields}
use Rattle.sg_target.specs.Demands.{demands}
use Rattle.sg_target.specs.FaultLaws.{FaultsOnlyDropOrShorten, OnlyPassedCommandsEndWithGood}
use Rattle.sg_target.specs.FaultLaws.{RefusedCommandsStayRefused}
use Rattle.sg_target.specs.Laws.{LimitsAreKept}
use Rattle.sg_target.specs.Runs.{after_events, armed_after_happening, armed_disk, armed_step_of}
use Rattle.sg_target.specs.State.{IsWithinLimits, State, config_of}
use Rattle.sg_target.specs.Step.{Answer, Step, step}
use Rattle.sg_target.specs.declared.call.Call.{Call}
use Rattle.sg_target.specs.declared.event.Event.{Event}
use Rattle.sg_target.specs.declared.event.Event.TheVariants as event
use Rattle.sg_target.specs.declared.operation.Operation.{Operation}
use Rattle.sg_target.specs.declared.refusal.Reason.TheVariants.{ParameterListLengthError}
use Rattle.sg_target.specs.declared.refusal.Refusal.TheVariants.{CheckCondition}
use Rattle.sg_target.proofs.LiftLemmas.{asked}
use Rattle.sg_fencing.specs.Registrants.{IsPreempted, asks_to_register, is_registrant, preempted_key}
use Rattle.sg_fencing.specs.Registrants.{rules_for}
use Rattle.sg_fencing.specs.WithFaults.{IsFencedOut, IsNeverRegistered, StaysFencedOut}
use Rattle.sg_fencing.proofs.FaultLemmas.{kept-away, left-without-writing}
use Rattle.sg_fencing.proofs.FaultLemmas.{registers-it-with-faults}
use Rattle.sg_fencing.proofs.OperationLemmas.{listed}
use Rattle.sg_fencing.proofs.OthersLemmas.{Keeps, same}
use Rattle.sg_fencing.proofs.OutsiderLemmas.{IsOutside, outsider-spares, shut}
use Rattle.sg_fencing.proofs.PowerLemmas.{unknown-after}
use Rattle.sg_fencing.proofs.PreemptLemmas.{preempt-unregisters}

-- ---- One command of an initiator that is fenced off

pub fenced-out : FaultsOnlyDropOrShorten → RefusedCommandsStayRefused → OthersAreRefused
    → CommandsHaveTheirClass → (disk : Armed) (j : ℕ) → IsOutside disk.state j
    → IsWithinLimits disk.state → (cdb data_out : List ℕ) → IsFencedOut disk j cdb data_out
fenced-out drops stays refuses classes disk j h w cdb data_out =
    let no = shut refuses disk.state j h in
    record {
      kept = kept-away stays disk j cdb data_out classes _ no.writes no.reads;
      others =
          λ i apart spared. let other : j ≡ i → ⊥ = λ e. apart (sym e) in
          (left-without-writing drops disk j cdb data_out (λ (after : State). Keeps disk.state after i)
          (same disk.state i)
          (outsider-spares refuses classes disk.state i j other h w cdb data_out spared) classes
          no.writes).left;
    }

-- ---- Over events

-- an initiator is not registered, and no table passes its limit
record IsUnknown (disk : Armed) (i : ℕ) : Type 0 where
  within : IsWithinLimits disk.state
  unknown : is_registrant disk.state i ≡ false

module _ (drops : FaultsOnlyDropOrShorten) (limits : LimitsAreKept) (i : ℕ) where
  unknown-call : (disk : Armed) (call : Call) → IsUnknown disk i
      → (asks_to_register (rules_for disk.state) call.initiator i (command_of call.cdb.now) call.data_out.now
      ≡ true → is_registrant (armed_step_of disk call).after.state i ≡ false)
      → IsUnknown (armed_step_of disk call).after i
  unknown-call disk call h asking = record {
    within = limits.armed disk call.initiator call.cdb.now call.data_out.now h.within;
    unknown =
        false_from_ne_true _
        (λ known.
        let its = registers-it-with-faults drops disk i call.initiator h.unknown call.cdb.now
        call.data_out.now known in
        false≢true (sym (asking its.asks) ∙ known));
  }

  unknown-still : (disk : Armed) (events : List Event) → IsUnknown disk i
      → IsNeverRegistered i disk events → IsUnknown (after_events armed_disk disk events) i
  unknown-still disk [] h never = h
  unknown-still disk (event.Call call ∷ events) h never =
      unknown-still (armed_step_of disk call).after events
      (unknown-call disk call h (never 0 call refl)) (λ n next at. never (suc n) next at)
  unknown-still disk (event.Happen happening ∷ events) h never =
      unknown-still (armed_after_happening disk happening) events
      (record {
        within = limits.happening happening disk.state h.within;
        unknown = unknown-after happening disk.state i h.unknown;
      })
      (λ n next at. never (suc n) next at)

  pub stays-fenced-out : RefusedCommandsStayRefused → OthersAreRefused → CommandsHaveTheirClass
      → (disk : Armed) → IsWithinLimits disk.state → is_registrant disk.state i ≡ false
      → StaysFencedOut i disk
  stays-fenced-out stays refuses classes disk w unknown events cdb data_out never held =
      let left = after_events armed_disk disk events in
      let h = unknown-still disk events (record { within = w; unknown = unknown }) never in
      fenced-out drops stays refuses classes left i (record { held = held; unknown = h.unknown }) h.within
      cdb data_out

-- ---- A preemption that ends with GOOD

-- no fault cuts it short
whole : (config : ConfigFields) (command : Command) (data_out : List ℕ) (operation : Operation)
    → (demands config command data_out).operation ≡ Ok operation → (key : ℕ)
    → preempted_key (Ok command) data_out ≡ Some key → (n : ℕ)
    → first_blocks n operation ≡ operation
whole config (PersistentReserveOut c) data_out operation e key h n =
    let list = first_bytes c.list_length data_out in
    subst (λ (o : Operation). first_blocks n o ≡ o)
    (listed c.action c.scope_type (has_list_length (rules_of config.identity.profile) c.action list)
    (out_list_of c.action list)
    (CheckCondition ParameterListLengthError) operation e)
    refl
whole config _ data_out operation e key h n = cc

all-of-it : (operation part : Operation) → ((n : ℕ) → first_blocks n operation ≡ operation)
    → (part ≡ operation) ⊎ ((blocks : ℕ) × (part ≡ first_blocks blocks operation)) → part ≡ operation
all-of-it operation part uncut (inl same) = same
all-of-it operation part uncut (inr first) = first.1 ∙ uncut first.0

pub unregistered-by : OnlyPassedCommandsEndWithGood → OneKeyEach → (disk : Armed) (preempt : Call) (i : ℕ)
    → IsWithinLimits disk.state
    → IsPreempted disk.state i preempt (armed_step_of disk preempt).answer
    → is_registrant (armed_step_of disk preempt).after.state i ≡ false
unregistered-by passes one disk preempt i w it =
    let state = disk.state in
    let j = preempt.initiator in
    let cdb = preempt.cdb.now in
    let data_out = preempt.data_out.now in
    let run = passes disk j cdb data_out it.good in
    let k = asked state j cdb data_out run.operation run.passed in
    let sent = sym (ap (λ (p : Result Command CdbFault). preempted_key p data_out) k.command_is) ∙ it.sent in
    let uncut = all-of-it run.operation run.part
    (whole (config_of state) k.command data_out run.operation k.operation_is it.key sent) run.part_is in
    let same : step_of_checked state j (Ok run.part) ≡ step state j cdb data_out =
    ap (λ (o : Operation). step_of_checked state j (Ok o)) uncut
    ∙ ap (step_of_checked state j) (sym run.passed) in
    let good = sym (ap (λ (s : Step). s.answer.status) same)
    ∙ (sym (ap (λ (a : Answer). a.status) run.answer) ∙ it.good) in
    ap (λ (s : State). is_registrant s i) (run.after ∙ ap (λ (s : Step). s.state) same)
    ∙ preempt-unregisters one state i j it.key cdb data_out w it.another it.sent it.registered good
