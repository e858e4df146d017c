-- Commands on a disk with armed faults.
use Rattle.std.proofs.Common.{◌≡◌, ◌≤◌, ℕ, ◌*◌, List, [], min, Option, Some, None}
use Rattle.std.proofs.Common.{Result, Ok, Err, Bool, true, false, if◌then◌else◌, refl, ap, ap₂, ◌∙◌}
use Rattle.std.proofs.Common.{arith, length-take}
use Rattle.std.specs.Prelude.{IfOk}
use Rattle.sg_wire.specs.CdbDecoding.{command_in}
use Rattle.sg_faults.specs.Faults.{Faults, asked, decided, is_armed}
use Rattle.sg_faults.specs.Laws.{UnarmedFaultsDoNothing}
use Rattle.sg_faults.specs.Meeting.{Seen, reaches_medium}
use Rattle.sg_faults.specs.Places.{afterwards, at_medium, on_arrival}
use Rattle.sg_faults.specs.declared.fault.Fault.{Fault}
use Rattle.sg_faults.specs.declared.outcome.Afterwards.{Afterwards}
use Rattle.sg_faults.specs.declared.outcome.AtMedium.{AtMedium}
use Rattle.sg_faults.specs.declared.outcome.AtMedium.TheVariants as medium
use Rattle.sg_faults.specs.declared.outcome.OnArrival.{OnArrival}
use Rattle.sg_faults.specs.declared.outcome.Struck.{Struck}
use Rattle.sg_target.specs.Armed.{Armed, Attempt, afterwards_step, armed_step}
use Rattle.sg_target.specs.Armed.{armed_step_by, arrival_attempt, attempt, checked_attempt}
use Rattle.sg_target.specs.Armed.{faults_left, finished_if_good, first_blocks, lacks_room, marked_by}
use Rattle.sg_target.specs.Armed.{medium_attempt, result_at_medium, seen, step_of_checked, with_room}
use Rattle.sg_target.specs.Checks.{checked_cdb}
use Rattle.sg_target.specs.DataInBound.{checked_bound, data_in_bound}
use Rattle.sg_target.specs.Extents.{AreOnDisk}
use Rattle.sg_target.specs.FaultLaws.{is_write_long}
use Rattle.sg_target.specs.Semantics.{medium_use}
use Rattle.sg_target.specs.State.{State, profile_of}
use Rattle.sg_target.specs.Step.{Step, step}
use Rattle.sg_target.specs.declared.operation.Operation.{Operation}
use Rattle.sg_target.specs.declared.operation.Operation.TheVariants as operation
use Rattle.sg_target.specs.declared.refusal.Refusal.{Refusal}
use Rattle.sg_target.specs.declared.reply.Status.{Status}
use Rattle.sg_target.specs.declared.reply.Status.TheVariants.{Good}
use Rattle.sg_target.proofs.BlocksLemmas.{IsReady, Ready}
use Rattle.sg_target.proofs.MarkingLemmas.{only-write-long, unmarked-stays}

-- what holds of both
pub of-both : {A : Type 0} (P : A → Type 0) (b : Bool) {x y : A} → P x → P y → P (if b then x else y)
of-both P true px py = px
of-both P false px py = py

-- ---- No fault is armed

module _ (law : UnarmedFaultsDoNothing) where
  checked-unarmed : (faults : Faults) (command : Seen) (checked : Result Operation Refusal)
      → is_armed faults ≡ false
      → checked_attempt command checked faults ≡ record { result = checked; faults = faults }
  checked-unarmed faults command (Err refusal) e = refl
  checked-unarmed faults command (Ok o) e = let idle = law.at_medium command faults e in
      of-both (λ (t : Attempt). t ≡ record { result = Ok o; faults = faults }) (reaches_medium command)
      (ap₂ (λ (d : Option (Struck AtMedium)) (f : Faults). medium_attempt d o f) idle.0 idle.1) refl

  arrival-unarmed : (faults : Faults) (command : Seen) (checked : Result Operation Refusal)
      → is_armed faults ≡ false
      → arrival_attempt (decided on_arrival command faults) command checked
      (asked on_arrival command faults)
      ≡ record { result = checked; faults = faults }
  arrival-unarmed faults command checked e = let idle = law.on_arrival command faults e in
      ap₂ (λ (d : Option (Struck OnArrival)) (f : Faults). arrival_attempt d command checked f) idle.0
      idle.1
      ∙ checked-unarmed faults command checked e

  pub attempt-unarmed : (faults : Faults) (command : Seen) (checked : Result Operation Refusal)
      → is_armed faults ≡ false → marked_by checked ≡ None
      → attempt faults command checked ≡ record { result = checked; faults = faults }
  attempt-unarmed faults command checked e none =
      ap (with_room command) (arrival-unarmed faults command checked e)
      ∙ unmarked-stays command (record { result = checked; faults = faults }) none

  finished-unarmed : (status : Status) (command : Seen) (faults : Faults) (done : Step)
      → is_armed faults ≡ false
      → finished_if_good status None command faults done
      ≡ record {
        answer = done.answer;
        unsent = [];
        after = record { state = done.state; faults = faults };
      }
  finished-unarmed Good command faults done e =
      let idle = law.afterwards command faults e in
      let same = law.healing command faults e in
      ap₂ (λ (d : Option (Struck Afterwards)) (f : Faults). afterwards_step d done f)
      (ap (decided afterwards command) same ∙ idle.0) (ap (asked afterwards command) same ∙ idle.1)
  finished-unarmed _ command faults done e = refl

  pub step-by-unarmed : (disk : Armed) (i : ℕ) (cdb : List ℕ) (checked : Result Operation Refusal)
      → is_armed disk.faults ≡ false → marked_by checked ≡ None
      → armed_step_by disk i cdb checked
      ≡ (let done = step_of_checked disk.state i checked in
      record { answer = done.answer; unsent = []; after = record disk { state = done.state } })
  step-by-unarmed disk i cdb checked e none =
      let tried = attempt-unarmed disk.faults (seen i cdb checked) checked e none in
      let done = step_of_checked disk.state i checked in
      ap
      (λ (t : Attempt). let d = step_of_checked disk.state i t.result in
      finished_if_good d.answer.status (marked_by t.result) (seen i cdb t.result) t.faults d)
      tried
      ∙ (ap
      (λ (mark : Option Fault). finished_if_good done.answer.status mark (seen i cdb checked)
      disk.faults done)
      none
      ∙ finished-unarmed done.answer.status (seen i cdb checked) disk.faults done e)

  pub step-unarmed : (disk : Armed) (i : ℕ) (cdb data_out : List ℕ) → is_armed disk.faults ≡ false
      → is_write_long (command_in (profile_of disk.state) cdb) ≡ false
      → armed_step disk i cdb data_out
      ≡ (let done = step disk.state i cdb data_out in
      record { answer = done.answer; unsent = []; after = record disk { state = done.state } })
  step-unarmed disk i cdb data_out e other =
      step-by-unarmed disk i cdb (checked_cdb disk.state i cdb data_out) e
      (only-write-long disk.state i cdb data_out other)

-- ---- What is executed

-- the state afterwards is the step's
afterwards-state : (struck : Option (Struck Afterwards)) (done : Step) (faults : Faults)
    → (afterwards_step struck done faults).after.state ≡ done.state
afterwards-state None done faults = refl
afterwards-state (Some struck) done faults = refl

pub finished-state : (status : Status) (mark : Option Fault) (command : Seen) (faults : Faults)
    (done : Step) → (finished_if_good status mark command faults done).after.state ≡ done.state
finished-state Good mark command faults done =
    let left = faults_left mark command faults in
    afterwards-state (decided afterwards command left) done (asked afterwards command left)
finished-state _ mark command faults done = refl

-- a fault afterwards does not meet a command that has not ended with GOOD
pub finished-bad : (status : Status) (mark : Option Fault) (command : Seen) (faults : Faults)
    (done : Step) → (status ≡ Good → ⊥)
    → finished_if_good status mark command faults done ≡ afterwards_step None done faults
finished-bad Good mark command faults done bad = absurd (bad refl)
finished-bad _ mark command faults done bad = refl

-- what is known of an operation that the checks pass is known of what is executed
module _ (P : Operation → Type 0)
    (first : (n : ℕ) (o : Operation) → P o → P (first_blocks n o)) where
  abbrev pub Holds : Result Operation Refusal → Type 0
  Holds (Ok o) = P o
  Holds (Err refusal) = Unit {0}

  at-medium : (o : Operation) (bad : Option ℕ) (outcome : AtMedium) → P o
      → Holds (result_at_medium o bad outcome)
  at-medium o bad (medium.CheckCondition code) h = tt
  at-medium o bad (medium.MovesOnly n) h = first n o h

  after-medium : (struck : Option (Struck AtMedium)) (o : Operation) (faults : Faults) → P o
      → Holds (medium_attempt struck o faults).result
  after-medium None o faults h = h
  after-medium (Some struck) o faults h = at-medium o struck.first_bad struck.outcome h

  after-checks : (command : Seen) (checked : Result Operation Refusal) (faults : Faults)
      → Holds checked → Holds (checked_attempt command checked faults).result
  after-checks command (Ok o) faults h =
      of-both (λ (t : Attempt). Holds t.result) (reaches_medium command)
      (after-medium (decided at_medium command faults) o (asked at_medium command faults) h) h
  after-checks command (Err refusal) faults h = tt

  after-arrival : (struck : Option (Struck OnArrival)) (command : Seen)
      (checked : Result Operation Refusal) (faults : Faults)
      → Holds checked → Holds (arrival_attempt struck command checked faults).result
  after-arrival None command checked faults h = after-checks command checked faults h
  after-arrival (Some struck) command checked faults h = tt

  pub holds : (faults : Faults) (command : Seen) (checked : Result Operation Refusal)
      → Holds checked → Holds (attempt faults command checked).result
  holds faults command checked h =
      let tried = arrival_attempt (decided on_arrival command faults) command checked
      (asked on_arrival command faults) in
      of-both (λ (t : Attempt). Holds t.result) (lacks_room command tried) tt
      (after-arrival (decided on_arrival command faults) command checked
      (asked on_arrival command faults) h)

-- so its blocks are on the disk
first-on_disk : (capacity n : ℕ) (o : Operation) → AreOnDisk capacity (medium_use o).extents
    → AreOnDisk capacity (medium_use (first_blocks n o)).extents
first-on_disk capacity n (operation.Read extent) h = (omega (arith, h.0), tt)
first-on_disk capacity n (operation.Write out) h = (omega (arith, h.0), tt)
first-on_disk capacity n (operation.Fill extent block) h = (omega (arith, h.0), tt)
first-on_disk capacity n o h = h

-- and its data-in fits
first-fits : (room n : ℕ) (o : Operation) → data_in_bound o ≤ room
    → data_in_bound (first_blocks n o) ≤ room
first-fits room n (operation.Read extent) h = omega (arith, h)
first-fits room n o h = h

abbrev IsOnDisk : (capacity : ℕ) → Operation → Type 0
IsOnDisk capacity o = AreOnDisk capacity (medium_use o).extents

pub attempt-on_disk : (capacity : ℕ) (faults : Faults) (command : Seen)
    (checked : Result Operation Refusal)
    → IfOk checked (λ o. AreOnDisk capacity (medium_use o).extents)
    → IfOk (attempt faults command checked).result (λ o. AreOnDisk capacity (medium_use o).extents)
attempt-on_disk capacity faults command checked h =
    out (attempt faults command checked).result
    (holds (IsOnDisk capacity) (first-on_disk capacity) faults command checked (into checked h))
  where
    into : (r : Result Operation Refusal) → IfOk r (IsOnDisk capacity)
        → Holds (IsOnDisk capacity) (first-on_disk capacity) r
    into (Ok o) h = h
    into (Err refusal) h = tt

    out : (r : Result Operation Refusal) → Holds (IsOnDisk capacity) (first-on_disk capacity) r
        → IfOk r (IsOnDisk capacity)
    out (Ok o) h = h
    out (Err refusal) h = tt

abbrev Fits : (room : ℕ) → Operation → Type 0
Fits room o = data_in_bound o ≤ room

pub attempt-fits : (room : ℕ) (faults : Faults) (command : Seen) (checked : Result Operation Refusal)
    → checked_bound checked ≤ room → checked_bound (attempt faults command checked).result ≤ room
attempt-fits room faults command checked h =
    out (attempt faults command checked).result
    (holds (Fits room) (first-fits room) faults command checked (into checked h))
  where
    into : (r : Result Operation Refusal) → checked_bound r ≤ room → Holds (Fits room) (first-fits room) r
    into (Ok o) h = h
    into (Err refusal) h = tt

    out : (r : Result Operation Refusal) → Holds (Fits room) (first-fits room) r → checked_bound r ≤ room
    out (Ok o) h = h
    out (Err refusal) h = omega arith

-- the first blocks of an operation that is ready are ready
first-ready : (state : State) (n : ℕ) (o : Operation) → IsReady state o
    → IsReady state (first_blocks n o)
first-ready state n (operation.Read extent) h = record {
  sound = tt;
  on_disk = (omega (arith, h.on_disk.0), tt);
}
first-ready state n (operation.Write out) h = record {
  sound = omega (arith, h.sound, length-take (512 * min n out.extent.count) out.bytes);
  on_disk = (omega (arith, h.on_disk.0), tt);
}
first-ready state n (operation.Fill extent block) h = record {
  sound = h.sound;
  on_disk = (omega (arith, h.on_disk.0), tt);
}
first-ready state n o h = h

pub attempt-ready : (state : State) (faults : Faults) (command : Seen)
    (checked : Result Operation Refusal) → Ready state checked
    → Ready state (attempt faults command checked).result
attempt-ready state faults command checked h =
    as-ready (attempt faults command checked).result
    (holds (IsReady state) (first-ready state) faults command checked (as-held checked h))
  where
    as-held : (r : Result Operation Refusal) → Ready state r → Holds (IsReady state) (first-ready state) r
    as-held (Ok o) h = h
    as-held (Err refusal) h = tt

    as-ready : (r : Result Operation Refusal) → Holds (IsReady state) (first-ready state) r → Ready state r
    as-ready (Ok o) h = h
    as-ready (Err refusal) h = tt
