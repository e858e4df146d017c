-- The changes of each command.
use Rattle.std.proofs.Common.{◌≡◌, ℕ, List, [], ◌∷◌, ◌++◌, Option, Some, None}
use Rattle.std.proofs.Common.{Result, Ok, Err, refl, sym, ap, ◌∙◌, subst, arith}
use Rattle.std.specs.Option.{option_map_or}
use Rattle.std.specs.Prelude.{IfOk, option_and_then}
use Rattle.sg_changes.specs.Change.{Change, applied, applied_all}
use Rattle.sg_changes.specs.KeptFields.{KeptFields}
use Rattle.sg_faults.specs.Faults.{Faults}
use Rattle.sg_pages.specs.declared.provisioning_pages.MappingResources.{MappingResources}
use Rattle.sg_target.specs.Alerts.{alerted}
use Rattle.sg_target.specs.Armed.{Armed, armed_step, attempt_of, marked_by, seen, step_of_checked}
use Rattle.sg_target.specs.Checks.{checked_cdb}
use Rattle.sg_target.specs.Effect.{Effect}
use Rattle.sg_target.specs.Executed.{executed_if_good, executed_operation}
use Rattle.sg_target.specs.Laws.{LimitsAreKept}
use Rattle.sg_target.specs.Semantics.{effect_of}
use Rattle.sg_target.specs.State.{IsWithinLimits, State, resources_of}
use Rattle.sg_target.specs.Step.{Step, outcome, refused, with_alert}
use Rattle.sg_target.specs.declared.operation.Operation.{Operation}
use Rattle.sg_target.specs.declared.operation.Operation.TheVariants as operation
use Rattle.sg_target.specs.declared.refusal.Reason.TheVariants.{UnitAttention as Attention}
use Rattle.sg_target.specs.declared.refusal.Refusal.{Refusal}
use Rattle.sg_target.specs.declared.refusal.Refusal.TheVariants.{Conflict, CheckCondition}
use Rattle.sg_target.specs.declared.refusal.Refusal.TheVariants.{Busy, TaskSetFull, NoReply}
use Rattle.sg_target.specs.declared.refusal.Refusal.TheVariants.{DeferredError}
use Rattle.sg_target.proofs.ArmedLemmas.{attempt-ready, finished-state}
use Rattle.sg_target.proofs.BlocksLemmas.{IsSound, Ready, cdb-ready}
use Rattle.sg_target.proofs.LiftLemmas.{outcome-by}
use Rattle.sg_kept.specs.Changes.{changes_of, fault_changes}
use Rattle.sg_kept.specs.Kept.{kept}
use Rattle.sg_kept.specs.Laws.{CommandsMakeTheirChanges, HasItsBytes}
use Rattle.sg_kept.proofs.OperationLemmas.{FitsTables, fits, made}
use Rattle.sg_kept.proofs.TableLemmas.{faults-make, step-length}

-- an operation that the checks pass has the bytes of its blocks
has-bytes : (o : Operation) → IsSound o → HasItsBytes o
has-bytes (operation.Write out) sound = sound
has-bytes (operation.CompareAndWrite exchange) sound = omega (arith, sound)
has-bytes (operation.OrWrite out) sound = sound
has-bytes (operation.Fill extent block) sound = sound
has-bytes o sound = tt

alerted-change : (before : MappingResources) (i : ℕ) (after : State) (o : Operation)
    → changes_of (alerted before i after) o ≡ changes_of after o
alerted-change before i after (operation.Write out) = refl
alerted-change before i after (operation.CompareAndWrite exchange) = refl
alerted-change before i after (operation.OrWrite out) = refl
alerted-change before i after (operation.Copy segment) = refl
alerted-change before i after (operation.Fill extent block) = refl
alerted-change before i after (operation.Unmap extents) = refl
alerted-change before i after (operation.UnmapExtent extent) = refl
alerted-change before i after (operation.UnmapAll count) = refl
alerted-change before i after (operation.Anchor extents) = refl
alerted-change before i after (operation.AnchorExtent extent) = refl
alerted-change before i after (operation.ChangeModes width sp list) = refl
alerted-change before i after (operation.ChangeReservations action scope_type list) = refl
alerted-change before i after _ = refl

-- ---- The operation that is executed, if one is

module _ (state : State) (faults : Faults) (i : ℕ) where
  abbrev disk_in : State → Armed
  disk_in s = record { state = s; faults = faults }

  abbrev MakesExecuted : State → Option Operation → Type 0
  MakesExecuted after executed =
      applied_all (kept (disk_in state)) (option_map_or (changes_of after) executed [])
      ≡ Some (kept (disk_in after))

  abbrev Makes : Result Operation Refusal → Step → Type 0
  Makes result done =
      FitsTables done.state
      → MakesExecuted done.state (executed_if_good done.answer.status result)

  -- no refusal is GOOD, and a refused command changes only unit attentions
  refused-makes : (result : Result Operation Refusal) (refusal : Refusal)
      → Makes result (refused state i refusal)
  refused-makes result Conflict limits = refl
  refused-makes result (CheckCondition (Attention condition)) limits = refl
  refused-makes result (CheckCondition _) limits = refl
  refused-makes result Busy limits = refl
  refused-makes result TaskSetFull limits = refl
  refused-makes result NoReply limits = refl
  refused-makes result (DeferredError code) limits = refl

  effect-makes : (o : Operation) (found : Result Effect Refusal)
      → IfOk found (λ effect. FitsTables effect.after
      → applied_all (kept (disk_in state)) (changes_of effect.after o)
      ≡ Some (kept (disk_in effect.after)))
      → Makes (Ok o) (outcome state i found)
  effect-makes o (Err refusal) h = refused-makes (Ok o) refusal
  effect-makes o (Ok effect) h =
      outcome-by state i (Makes (Ok o)) effect (refused-makes (Ok o)) (λ none. h)

  -- a threshold that is told is no change
  alerted-executed : (after : State) (executed : Option Operation)
      → option_map_or (changes_of (alerted (resources_of state) i after)) executed []
      ≡ option_map_or (changes_of after) executed []
  alerted-executed after None = refl
  alerted-executed after (Some o) = alerted-change (resources_of state) i after o

  alerted-makes : (result : Result Operation Refusal) (done : Step) → Makes result done
      → Makes result (with_alert state i done)
  alerted-makes result done h limits =
      ap (applied_all (kept (disk_in state)))
      (alerted-executed done.state (executed_if_good done.answer.status result))
      ∙ h (record { used = limits.used; registered = limits.registered; blocks = limits.blocks })

  result-makes : (result : Result Operation Refusal) → Ready state result
      → Makes result (step_of_checked state i result)
  result-makes (Err refusal) ready =
      alerted-makes (Err refusal) (refused state i refusal) (refused-makes (Err refusal) refusal)
  result-makes (Ok o) ready =
      alerted-makes (Ok o) (outcome state i (effect_of state i o))
      (effect-makes o (effect_of state i o)
      (made state faults i o (has-bytes o ready.sound) ready.on_disk))

-- ---- Changes one after another

-- from what the first change has left, if it applies
after-left : (first rest : List Change) (left : Option KeptFields)
    → ((x : KeptFields) → applied_all x (first ++ rest)
    ≡ option_and_then (λ y. applied_all y rest) (applied_all x first))
    → option_and_then (λ x. applied_all x (first ++ rest)) left
    ≡ option_and_then (λ y. applied_all y rest) (option_and_then (λ x. applied_all x first) left)
after-left first rest None h = refl
after-left first rest (Some x) h = h x

in-turn : (k : KeptFields) (first rest : List Change)
    → applied_all k (first ++ rest)
    ≡ option_and_then (λ y. applied_all y rest) (applied_all k first)
in-turn k [] rest = refl
in-turn k (change ∷ first) rest =
    after-left first rest (applied k change) (λ x. in-turn x first rest)

then-changes : (k after : KeptFields) (first rest : List Change) → applied_all k first ≡ Some after
    → applied_all k (first ++ rest) ≡ applied_all after rest
then-changes k after first rest e =
    in-turn k first rest ∙ ap (option_and_then (λ y. applied_all y rest)) e

-- ---- The command

pub commands-make : LimitsAreKept → CommandsMakeTheirChanges
commands-make limits disk i cdb data_out within =
    let checked = checked_cdb disk.state i cdb data_out in
    let tried = attempt_of disk i cdb data_out in
    let done = step_of_checked disk.state i tried.result in
    let after = (armed_step disk i cdb data_out).after in
    let executed = executed_operation disk i cdb data_out in
    let same = finished-state done.answer.status (marked_by tried.result) (seen i cdb tried.result)
    tried.faults done in
    let ready = attempt-ready disk.state disk.faults (seen i cdb checked) checked
    (cdb-ready disk.state i cdb data_out) in
    let left = fits done.state (subst IsWithinLimits same (limits.armed disk i cdb data_out within)) in
    let made = subst (λ (s : State). MakesExecuted disk.state disk.faults i s executed) (sym same)
    (result-makes disk.state disk.faults i tried.result ready left) in
    let between = kept (record { state = after.state; faults = disk.faults }) in
    then-changes (kept disk) between (option_map_or (changes_of after.state) executed [])
    (fault_changes disk.faults after.faults) made
    ∙ faults-make between after.faults (step-length disk i cdb data_out)
