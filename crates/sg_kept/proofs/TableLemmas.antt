-- The table of faults after a command, and its change.
use Rattle.std.proofs.Common.{◌≡◌, ℕ, suc, Bool, true, false, List, [], ◌∷◌, length}
use Rattle.std.proofs.Common.{Option, Some, None, Result, Ok, Err, refl, ap, ◌∙◌}
use Rattle.std.proofs.lemmas.List.{length-map}
use Rattle.std.specs.Prelude.{◌||◌, if◌then◌else◌, is_some}
use Rattle.sg_changes.specs.Change.{applied_all}
use Rattle.sg_changes.specs.Change.Change.{Faults as FaultTable}
use Rattle.sg_changes.specs.KeptFields.{KeptFields}
use Rattle.sg_faults.specs.Faults.{Faults, asked, decided, healed, healed_slot, is_armed, struck_in}
use Rattle.sg_faults.specs.Faults.{with_fault}
use Rattle.sg_faults.specs.Meeting.{Seen, reaches_medium}
use Rattle.sg_faults.specs.Places.{At, afterwards, at_medium, on_arrival}
use Rattle.sg_faults.specs.declared.fault.Fault.{Fault}
use Rattle.sg_faults.specs.declared.outcome.Afterwards.{Afterwards}
use Rattle.sg_faults.specs.declared.outcome.AtMedium.{AtMedium}
use Rattle.sg_faults.specs.declared.outcome.OnArrival.{OnArrival}
use Rattle.sg_faults.specs.declared.outcome.Struck.{Struck}
use Rattle.sg_target.specs.Armed.{Armed, Attempt, afterwards_step, armed_step, arrival_attempt}
use Rattle.sg_target.specs.Armed.{attempt, attempt_of, checked_attempt, faults_left}
use Rattle.sg_target.specs.Armed.{finished_if_good, lacks_room, marked_by, medium_attempt, seen}
use Rattle.sg_target.specs.Armed.{step_of_checked}
use Rattle.sg_target.specs.Checks.{checked_cdb}
use Rattle.sg_target.specs.Step.{Step}
use Rattle.sg_target.specs.declared.operation.Operation.{Operation}
use Rattle.sg_target.specs.declared.refusal.Refusal.{Refusal}
use Rattle.sg_target.specs.declared.reply.Status.{Status}
use Rattle.sg_target.specs.declared.reply.Status.TheVariants.{Good}
use Rattle.sg_target.proofs.ArmedLemmas.{of-both}
use Rattle.sg_kept.specs.Changes.{fault_changes}

-- ---- It has as many numbers as before

asked-length : {A : Type 0} (at : At A) (command : Seen) (faults : Faults)
    → length (asked at command faults) ≡ length faults
asked-length at command [] = refl
asked-length at command (slot ∷ faults) =
    ap suc (of-both (λ (rest : Faults). length rest ≡ length faults)
    (is_some (struck_in at command slot)) refl (asked-length at command faults))

healed-length : (command : Seen) (faults : Faults) → length (healed command faults) ≡ length faults
unfolding healed
healed-length command faults = length-map faults (healed_slot command)

armed-length : (faults : Faults) (fault : Fault) → length (with_fault faults fault) ≡ length faults
armed-length [] fault = refl
armed-length (None ∷ faults) fault = refl
armed-length (Some a ∷ faults) fault = ap suc (armed-length faults fault)

left-length : (mark : Option Fault) (command : Seen) (faults : Faults)
    → length (faults_left mark command faults) ≡ length faults
left-length None command faults = healed-length command faults
left-length (Some fault) command faults =
    armed-length (healed command faults) fault ∙ healed-length command faults

after-faults : (struck : Option (Struck Afterwards)) (done : Step) (faults : Faults)
    → (afterwards_step struck done faults).after.faults ≡ faults
after-faults None done faults = refl
after-faults (Some struck) done faults = refl

finished-length : (status : Status) (mark : Option Fault) (command : Seen) (faults : Faults)
    (done : Step) → length (finished_if_good status mark command faults done).after.faults ≡ length faults
finished-length Good mark command faults done =
    let left = faults_left mark command faults in
    ap length (after-faults (decided afterwards command left) done (asked afterwards command left))
    ∙ asked-length afterwards command left ∙ left-length mark command faults
finished-length _ mark command faults done = refl

medium-length : (struck : Option (Struck AtMedium)) (o : Operation) (faults : Faults)
    → length (medium_attempt struck o faults).faults ≡ length faults
medium-length None o faults = refl
medium-length (Some struck) o faults = refl

checked-length : (command : Seen) (checked : Result Operation Refusal) (faults : Faults)
    → length (checked_attempt command checked faults).faults ≡ length faults
checked-length command (Err refusal) faults = refl
checked-length command (Ok o) faults =
    of-both (λ (t : Attempt). length t.faults ≡ length faults) (reaches_medium command)
    (medium-length (decided at_medium command faults) o (asked at_medium command faults)
    ∙ asked-length at_medium command faults)
    refl

arrival-length : (struck : Option (Struck OnArrival)) (command : Seen)
    (checked : Result Operation Refusal) (faults : Faults)
    → length (arrival_attempt struck command checked faults).faults ≡ length faults
arrival-length None command checked faults = checked-length command checked faults
arrival-length (Some struck) command checked faults = refl

attempt-length : (faults : Faults) (command : Seen) (checked : Result Operation Refusal)
    → length (attempt faults command checked).faults ≡ length faults
attempt-length faults command checked =
    let struck = decided on_arrival command faults in
    let counted = asked on_arrival command faults in
    let tried = arrival_attempt struck command checked counted in
    let same =
    arrival-length struck command checked counted ∙ asked-length on_arrival command faults in
    of-both (λ (t : Attempt). length t.faults ≡ length faults) (lacks_room command tried) same same

pub step-length : (disk : Armed) (i : ℕ) (cdb data_out : List ℕ)
    → length (armed_step disk i cdb data_out).after.faults ≡ length disk.faults
step-length disk i cdb data_out =
    let checked = checked_cdb disk.state i cdb data_out in
    let tried = attempt_of disk i cdb data_out in
    let done = step_of_checked disk.state i tried.result in
    finished-length done.answer.status (marked_by tried.result) (seen i cdb tried.result)
    tried.faults done
    ∙ attempt-length disk.faults (seen i cdb checked) checked

-- ---- Its change

-- two tables of one length are the same if no fault is armed in either
unarmed-same : (before after : Faults) → length after ≡ length before
    → (is_armed before || is_armed after) ≡ false → before ≡ after
unarmed-same [] [] e f = refl
unarmed-same [] (slot ∷ after) e f = cc
unarmed-same (slot ∷ before) [] e f = cc
unarmed-same (None ∷ before) (None ∷ after) e f =
    let shorter : length after ≡ length before = cc in
    ap (λ (rest : Faults). None ∷ rest) (unarmed-same before after shorter f)
unarmed-same (Some a ∷ before) (slot ∷ after) e f = cc
unarmed-same (None ∷ before) (Some a ∷ after) e f = by_rest (is_armed before) f
  where
    by_rest : (armed : Bool) → (armed || true) ≡ false → None ∷ before ≡ Some a ∷ after
    by_rest true e = cc
    by_rest false e = cc

module _ (k : KeptFields) (after : Faults) (same : length after ≡ length k.faults) where
  abbrev leaves : Bool → Option KeptFields
  leaves armed = applied_all k (if armed then FaultTable after ∷ [] else [])

  by-test : (armed : Bool) → (is_armed k.faults || is_armed after) ≡ armed
      → leaves armed ≡ Some (record k { faults = after })
  by-test true e = refl
  by-test false e =
      ap (λ (faults : Faults). Some (record k { faults = faults }))
      (unarmed-same k.faults after same e)

  pub faults-make : applied_all k (fault_changes k.faults after)
      ≡ Some (record k { faults = after })
  faults-make = by-test (is_armed k.faults || is_armed after) refl
