-- A disk on which faults are armed: what it answers, and what it becomes. `step` defines what a disk
-- without faults answers.
use Rattle.std.specs.Prelude.{ℕ, List, Option, Some, None, Result, Ok, Err}
use Rattle.std.specs.Prelude.{[], Bool, ◌&&◌, ◌||◌, not, if◌then◌else◌, slice_get}
use Rattle.std.specs.Prelude.{◌++◌, drop, is_some}
use Rattle.std.specs.Option.{option_map_or}
use Rattle.sg_wire.specs.FirstBytes.{first_bytes}
use Rattle.sg_wire.specs.SenseData.{sense_data}
use Rattle.sg_faults.specs.Arming.{unrecovered_error}
use Rattle.sg_faults.specs.Faults.{Faults, asked, decided, have_room_after, healed, with_fault}
use Rattle.sg_faults.specs.Meeting.{Seen, reaches_medium}
use Rattle.sg_faults.specs.Places.{afterwards, at_medium, on_arrival}
use Rattle.sg_faults.specs.SenseCode.{sense_code}
use Rattle.sg_faults.specs.declared.fault.Fault.{Fault}
use Rattle.sg_faults.specs.declared.outcome.Afterwards.{Afterwards}
use Rattle.sg_faults.specs.declared.outcome.Afterwards.TheVariants as after
use Rattle.sg_faults.specs.declared.outcome.AtMedium.{AtMedium}
use Rattle.sg_faults.specs.declared.outcome.AtMedium.TheVariants as medium
use Rattle.sg_faults.specs.declared.outcome.OnArrival.{OnArrival}
use Rattle.sg_faults.specs.declared.outcome.OnArrival.TheVariants as arrival
use Rattle.sg_faults.specs.declared.outcome.Struck.{Struck}
use Rattle.sg_faults.specs.declared.sense_code.SenseCode.{SenseCode}
use Rattle.sg_faults.specs.declared.sense_code.SenseKey.TheVariants.{MediumError}
use Rattle.sg_target.specs.BlockCommands.{blocks_out, first_of}
use Rattle.sg_target.specs.Checks.{checked_cdb}
use Rattle.sg_target.specs.Refusal.{checked_next, fault_sense}
use Rattle.sg_target.specs.Semantics.{MediumUse, effect_of, medium_use, uses_no_block}
use Rattle.sg_target.specs.State.{State}
use Rattle.sg_target.specs.Step.{Answer, Step, check_condition, outcome, sense_format, with_alert}
use Rattle.sg_target.specs.declared.operation.Operation.{Operation}
use Rattle.sg_target.specs.declared.operation.Operation.TheVariants.{Read, Write, Fill, MarkBad}
use Rattle.sg_target.specs.declared.refusal.Reason.TheVariants as reason
use Rattle.sg_target.specs.declared.refusal.Refusal.{Refusal}
use Rattle.sg_target.specs.declared.refusal.Refusal.TheVariants as refusal
use Rattle.sg_target.specs.declared.reply.Status.{Status}
use Rattle.sg_target.specs.declared.reply.Status.TheVariants.{Good, NoReply}

-- The state of a disk, and the faults that are armed on it.
pub record Armed : Type 0 where
  pub state : State
  pub faults : Faults

-- The blocks that a command uses, unless it is refused.
abbrev pub medium_of : Result Operation Refusal → MediumUse
medium_of (Ok operation) = medium_use operation
medium_of (Err refusal) = uses_no_block

-- The faults see these blocks of a command, and its operation code.
abbrev pub seen : (initiator : ℕ) → (cdb : List ℕ) → Result Operation Refusal → Seen
seen initiator cdb checked = record {
  initiator = initiator;
  code = slice_get cdb 0;
  read = (medium_of checked).read;
  overwritten = (medium_of checked).overwritten;
}

-- ---- On arrival, and at the medium

-- What a fault does on arrival comes before every check.
abbrev pub refusal_on_arrival : OnArrival → Refusal
refusal_on_arrival arrival.Busy = refusal.Busy
refusal_on_arrival arrival.TaskSetFull = refusal.TaskSetFull
refusal_on_arrival arrival.ReservationConflict = refusal.Conflict
refusal_on_arrival arrival.NoReply = refusal.NoReply
refusal_on_arrival (arrival.CheckCondition code) = refusal.CheckCondition (reason.Fault code None)
refusal_on_arrival (arrival.DeferredError code) = refusal.DeferredError code

-- Only the first blocks of a READ, a WRITE or a WRITE SAME.
abbrev pub first_blocks : (blocks : ℕ) → Operation → Operation
first_blocks n (Read extent) = Read (first_of n extent)
first_blocks n (Write out) = Write (blocks_out (first_of n out.extent) out.bytes)
first_blocks n (Fill extent block) = Fill (first_of n extent) block
first_blocks n operation = operation

-- A command reaches the medium if it reads or writes a block. What a fault does there comes after the
-- checks of the CDB, its data-out and its blocks, and before the check for space.
abbrev pub result_at_medium : Operation → (first_bad : Option ℕ) → AtMedium → Result Operation Refusal
result_at_medium operation first_bad (medium.CheckCondition code) =
    Err (refusal.CheckCondition (reason.Fault code first_bad))
result_at_medium operation first_bad (medium.MovesOnly n) = Ok (first_blocks n operation)

-- The operation that is executed, or why none is; and the faults, which have counted the command.
pub record Attempt : Type 0 where
  pub result : Result Operation Refusal
  pub faults : Faults

abbrev pub medium_attempt : Option (Struck AtMedium) → Operation → Faults → Attempt
medium_attempt None operation faults = record { result = Ok operation; faults = faults }
medium_attempt (Some struck) operation faults =
    record { result = result_at_medium operation struck.first_bad struck.outcome; faults = faults }

abbrev pub checked_attempt : Seen → Result Operation Refusal → Faults → Attempt
checked_attempt command (Ok operation) faults =
    if reaches_medium command
    then medium_attempt (decided at_medium command faults) operation (asked at_medium command faults)
    else record { result = Ok operation; faults = faults }
checked_attempt command (Err refusal) faults = record { result = Err refusal; faults = faults }

abbrev pub arrival_attempt : Option (Struck OnArrival) → Seen → Result Operation Refusal → Faults
    → Attempt
arrival_attempt None command checked faults = checked_attempt command checked faults
arrival_attempt (Some struck) command checked faults =
    record { result = Err (refusal_on_arrival struck.outcome); faults = faults }

-- UNRECOVERED READ ERROR, or READ ERROR - LBA MARKED BAD BY APPLICATION CLIENT if COR_DIS says that the
-- disk is not to try to correct it (SBC-3, 4.18.2).
abbrev pub marked_code : (cor_dis : Bool) → SenseCode
marked_code cor_dis = sense_code MediumError 0x11 (if cor_dis then 0x14 else 0x00)

-- A WRITE LONG arms a fault.
abbrev pub fault_by : Operation → Option Fault
fault_by (MarkBad lba cor_dis) = Some (unrecovered_error lba (marked_code cor_dis))
fault_by operation = None

abbrev pub marked_by : Result Operation Refusal → Option Fault
marked_by (Ok operation) = fault_by operation
marked_by (Err refusal) = None

-- It is refused if no number is free for the fault.
abbrev pub lacks_room : Seen → Attempt → Bool
lacks_room command tried =
    is_some (marked_by tried.result) && not (have_room_after command tried.faults)

abbrev pub with_room : Seen → Attempt → Attempt
with_room command tried =
    if lacks_room command tried
    then record tried { result = Err (refusal.CheckCondition reason.InsufficientResources) } else tried

-- A command that the checks pass or refuse meets the faults on arrival, and then those at the medium.
abbrev pub attempt : Faults → Seen → Result Operation Refusal → Attempt
attempt faults command checked =
    with_room command
    (arrival_attempt (decided on_arrival command faults) command checked
    (asked on_arrival command faults))

-- ---- Afterwards

-- Only the first bytes of data-in arrive.
abbrev pub with_first : (bytes : ℕ) → Answer → Answer
with_first bytes answer = record answer { data_in = first_bytes bytes answer.data_in }

-- What a command returns after a fault: another status than GOOD and the same data-in, or GOOD and only
-- the first bytes of data-in.
abbrev pub answer_afterwards : Afterwards → Step → Answer
answer_afterwards after.NoReply done = record done.answer { status = NoReply }
answer_afterwards (after.CheckCondition code) done =
    check_condition (sense_data (sense_format done.state) (fault_sense code)) done.answer.data_in
answer_afterwards (after.ShortDataIn bytes) done = with_first bytes done.answer

-- The bytes of data-in after these do not arrive.
abbrev pub unsent_afterwards : Afterwards → Step → List ℕ
unsent_afterwards (after.ShortDataIn bytes) done = drop bytes done.answer.data_in
unsent_afterwards _ done = []

-- The answer to a command, the bytes after its data-in that do not arrive, and what the disk becomes.
pub record ArmedStep : Type 0 where
  pub answer : Answer
  pub unsent : List ℕ
  pub after : Armed

-- The answer with all of its data-in, whether it arrives or not.
abbrev pub whole_answer : ArmedStep → Answer
whole_answer done = record done.answer { data_in = done.answer.data_in ++ done.unsent }

abbrev pub afterwards_step : Option (Struck Afterwards) → Step → Faults → ArmedStep
afterwards_step None done faults = record {
  answer = done.answer;
  unsent = [];
  after = record { state = done.state; faults = faults };
}
afterwards_step (Some struck) done faults = record {
  answer = answer_afterwards struck.outcome done;
  unsent = unsent_afterwards struck.outcome done;
  after = record { state = done.state; faults = faults };
}

-- A command that has ended with GOOD heals blocks that it wrote, or marks one as bad. Then it meets the
-- faults afterwards.
abbrev pub faults_left : Option Fault → Seen → Faults → Faults
faults_left mark command faults = let left = healed command faults in
    option_map_or (with_fault left) mark left

abbrev pub finished : Option Fault → Seen → Faults → Step → ArmedStep
finished mark command faults done = let left = faults_left mark command faults in
    afterwards_step (decided afterwards command left) done (asked afterwards command left)

abbrev pub finished_if_good : Status → Option Fault → Seen → Faults → Step → ArmedStep
finished_if_good Good mark command faults done = finished mark command faults done
finished_if_good _ mark command faults done = afterwards_step None done faults

-- ---- The step

-- The step of a command that the checks pass or refuse.
abbrev pub step_of_checked : State → (initiator : ℕ) → Result Operation Refusal → Step
step_of_checked state initiator checked =
    with_alert state initiator
    (outcome state initiator (checked_next checked (effect_of state initiator)))

abbrev pub finished_attempt : State → (initiator : ℕ) → (cdb : List ℕ) → Attempt → ArmedStep
finished_attempt state initiator cdb tried =
    let done = step_of_checked state initiator tried.result in
    finished_if_good done.answer.status (marked_by tried.result) (seen initiator cdb tried.result)
    tried.faults done

abbrev pub attempt_by : Armed → (initiator : ℕ) → (cdb : List ℕ) → Result Operation Refusal → Attempt
attempt_by disk initiator cdb checked = attempt disk.faults (seen initiator cdb checked) checked

abbrev pub armed_step_by : Armed → (initiator : ℕ) → (cdb : List ℕ) → Result Operation Refusal
    → ArmedStep
armed_step_by disk initiator cdb checked =
    finished_attempt disk.state initiator cdb (attempt_by disk initiator cdb checked)

-- What becomes of a CDB after the faults on arrival and at the medium.
abbrev pub attempt_of : Armed → (initiator : ℕ) → (cdb data_out : List ℕ) → Attempt
attempt_of disk initiator cdb data_out =
    attempt_by disk initiator cdb (checked_cdb disk.state initiator cdb data_out)

-- The step of a CDB with its data-out, on a disk with armed faults.
abbrev pub armed_step : Armed → (initiator : ℕ) → (cdb data_out : List ℕ) → ArmedStep
armed_step disk initiator cdb data_out =
    armed_step_by disk initiator cdb (checked_cdb disk.state initiator cdb data_out)
