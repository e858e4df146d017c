-- The operation that a command has executed.
use Rattle.std.proofs.Common.{◌≡◌, ℕ, List, Option, Some, None, Result, Ok, Err, refl, sym, subst, arith}
use Rattle.std.specs.Prelude.{IfSome}
use Rattle.sg_copy.specs.declared.copy_list.Segment.{Segment}
use Rattle.sg_target.specs.Armed.{Armed, armed_step, attempt_of, marked_by, seen, step_of_checked}
use Rattle.sg_target.specs.BlockCommands.{BlocksOutFields, copying, or_writing}
use Rattle.sg_target.specs.Checks.{checked_cdb}
use Rattle.sg_target.specs.Executed.{executed_if_good, executed_operation}
use Rattle.sg_target.specs.State.{State}
use Rattle.sg_target.specs.Step.{Step, refused}
use Rattle.sg_target.specs.declared.operation.Operation.{Operation}
use Rattle.sg_target.specs.declared.operation.Operation.TheVariants.{Copy, OrWrite}
use Rattle.sg_target.specs.declared.refusal.Reason.TheVariants.{UnitAttention as Attention}
use Rattle.sg_target.specs.declared.refusal.Refusal.{Refusal}
use Rattle.sg_target.specs.declared.refusal.Refusal.TheVariants.{CheckCondition}
use Rattle.sg_target.specs.declared.reply.Status.{Status}
use Rattle.sg_target.specs.declared.reply.Status.TheVariants.{Good}
use Rattle.sg_target.proofs.ArmedLemmas.{attempt-ready, finished-state}
use Rattle.sg_target.proofs.BlocksLemmas.{IsReady, Ready, cdb-ready}
use Rattle.sg_target.proofs.LiftLemmas.{outcome-by}
use Rattle.sg_kept.specs.Recording.{IsReadable}

executed-is : (status : Status) (r : Result Operation Refusal) (o : Operation)
    → executed_if_good status r ≡ Some o → r ≡ Ok o
executed-is Good (Ok x) o e = cc
executed-is Good (Err refusal) o e = absurd (cc)
executed-is _ r o e = absurd (cc)

module _ (state : State) (i : ℕ) where
  abbrev Keeps : Step → Type 0
  Keeps done = done.state.disk.capacity ≡ state.disk.capacity

  refused-keeps : (refusal : Refusal) → Keeps (refused state i refusal)
  refused-keeps (CheckCondition (Attention condition)) = refl
  refused-keeps _ = refl

  or-write-keeps : (out : BlocksOutFields) → Keeps (step_of_checked state i (Ok (OrWrite out)))
  or-write-keeps out = outcome-by state i Keeps (or_writing state out) refused-keeps (λ none. refl)

  copy-keeps : (segment : Segment) → Keeps (step_of_checked state i (Ok (Copy segment)))
  copy-keeps segment = outcome-by state i Keeps (copying state segment) refused-keeps (λ none. refl)

  readable : (o : Operation) → IsReady state o
      → IsReadable (step_of_checked state i (Ok o)).state.disk.capacity o
  readable (OrWrite out) ready = let same = or-write-keeps out in let there = ready.on_disk.0
      in omega (arith, there, same)
  readable (Copy segment) ready = let same = copy-keeps segment in let there = ready.on_disk.1.0
      in omega (arith, there, same)
  readable _ ready = tt

  result-readable : (r : Result Operation Refusal) (o : Operation) → Ready state r → r ≡ Ok o
      → IsReadable (step_of_checked state i r).state.disk.capacity o
  result-readable r o ready same =
      subst (λ (x : Result Operation Refusal). IsReadable (step_of_checked state i x).state.disk.capacity o)
      (sym same) (readable o (subst (Ready state) same ready))

if-some : {A : Type 0} (P : A → Type 0) (o : Option A) → ((x : A) → o ≡ Some x → P x) → IfSome o P
if-some P None each = tt
if-some P (Some x) each = each x refl

-- the blocks that an ORWRITE or an EXTENDED COPY writes are on the disk that it has left
pub executed-readable : (disk : Armed) (i : ℕ) (cdb data_out : List ℕ)
    → IfSome (executed_operation disk i cdb data_out)
    (IsReadable (armed_step disk i cdb data_out).after.state.disk.capacity)
executed-readable disk i cdb data_out =
    let checked = checked_cdb disk.state i cdb data_out in
    let tried = attempt_of disk i cdb data_out in
    let done = step_of_checked disk.state i tried.result in
    let same = finished-state done.answer.status (marked_by tried.result) (seen i cdb tried.result)
    tried.faults done in
    let ready = attempt-ready disk.state disk.faults (seen i cdb checked) checked
    (cdb-ready disk.state i cdb data_out) in
    if-some (IsReadable (armed_step disk i cdb data_out).after.state.disk.capacity)
    (executed_operation disk i cdb data_out)
    (λ o e. subst (λ (s : State). IsReadable s.disk.capacity o) (sym same)
    (result-readable disk.state i tried.result o ready
    (executed-is done.answer.status tried.result o e)))
