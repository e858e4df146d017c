-- The step of a command: the answer to it, and the state after it.
use Rattle.std.specs.Option.{option_map_or}
use Rattle.std.specs.Prelude.{ℕ, List, [], Option, Some, None, Result, Ok, Err, slice_set}
use Rattle.sg_wire.specs.FirstBytes.{first_bytes}
use Rattle.sg_wire.specs.SenseData.{sense_data}
use Rattle.sg_wire.specs.declared.sense.Format.{Format}
use Rattle.sg_wire.specs.declared.sense.Format.TheVariants.{Fixed, Descriptor}
use Rattle.sg_faults.specs.declared.sense_code.SenseCode.{SenseCode}
use Rattle.sg_pages.specs.ModePage.{descriptor_sense}
use Rattle.sg_target.specs.Alerts.{alerted}
use Rattle.sg_target.specs.Checks.{checked_effect}
use Rattle.sg_target.specs.Effect.{Effect, without_attention}
use Rattle.sg_target.specs.PrimaryCommands.{format_of}
use Rattle.sg_target.specs.Refusal.{fault_sense, sense_of}
use Rattle.sg_target.specs.State.{State, resources_of}
use Rattle.sg_target.specs.declared.refusal.Refusal.{Refusal}
use Rattle.sg_target.specs.declared.refusal.Reason.TheVariants.{UnitAttention as Attention}
use Rattle.sg_target.specs.declared.refusal.Refusal.TheVariants as refusal
use Rattle.sg_target.specs.declared.refusal.Refusal.TheVariants.{Conflict, CheckCondition}
use Rattle.sg_target.specs.declared.refusal.Refusal.TheVariants.{DeferredError}
use Rattle.sg_target.specs.declared.reply.Status.{Status}
use Rattle.sg_target.specs.declared.reply.Status.TheVariants.{Good, CheckCondition, ReservationConflict}
use Rattle.sg_target.specs.declared.reply.Status.TheVariants.{Busy, TaskSetFull, NoReply}

-- The status, the sense data and the data-in of a command.
pub record Answer : Type 0 where
  pub status : Status
  pub sense : List ℕ
  pub data_in : List ℕ

pub record Step : Type 0 where
  pub answer : Answer
  pub state : State

-- ---- Refused

-- The format of the sense data of a refused command: descriptor format if D_SENSE is set (SPC-4,
-- Control mode page). REQUEST SENSE asks for a format by its own bit DESC.
abbrev pub sense_format : State → Format
sense_format state = format_of (descriptor_sense state.modes)

-- A status without sense data and data-in.
abbrev pub status_alone : Status → Answer
status_alone status = record { status = status; sense = []; data_in = [] }

-- CHECK CONDITION with sense data, after some data-in.
abbrev pub check_condition : (sense data_in : List ℕ) → Answer
check_condition sense data_in =
    record { status = CheckCondition; sense = sense; data_in = data_in }

-- The response code of sense data that reports a deferred error (SPC-4, 4.5.5).
abbrev pub deferred_response_code : Format → ℕ
deferred_response_code Fixed = 0x71
deferred_response_code Descriptor = 0x73

abbrev pub deferred_sense : Format → SenseCode → List ℕ
deferred_sense format code =
    slice_set (sense_data format (fault_sense code)) 0 (deferred_response_code format)

-- A conflict has a status of its own, and so have some armed faults. All other refusals have CHECK
-- CONDITION with sense data.
abbrev pub refusal_answer : Format → Refusal → Answer
refusal_answer format Conflict = status_alone ReservationConflict
refusal_answer format (CheckCondition reason) =
    check_condition (sense_data format (sense_of reason)) []
refusal_answer format refusal.Busy = status_alone Busy
refusal_answer format refusal.TaskSetFull = status_alone TaskSetFull
refusal_answer format refusal.NoReply = status_alone NoReply
refusal_answer format (DeferredError code) = check_condition (deferred_sense format code) []

-- A refused command changes nothing, except that it clears the unit attention that it reports.
abbrev pub after_refusal : State → (initiator : ℕ) → Refusal → State
after_refusal state initiator (CheckCondition (Attention condition)) =
    without_attention state initiator
after_refusal state initiator _ = state

abbrev pub refused : State → (initiator : ℕ) → Refusal → Step
refused state initiator refusal =
    record {
      answer = refusal_answer (sense_format state) refusal;
      state = after_refusal state initiator refusal;
    }

-- ---- Executed

-- Full data-in, or its first bytes if there is an allocation length.
abbrev pub cut : (allocation_length : Option ℕ) → List ℕ → List ℕ
cut None data_in = data_in
cut (Some n) data_in = first_bytes n data_in

abbrev pub good : List ℕ → Answer
good data_in = record { status = Good; sense = []; data_in = data_in }

abbrev pub executed : Effect → Step
executed effect =
    record { answer = good (cut effect.allocation_length effect.data_in); state = effect.after }

-- ---- Either

-- A command is refused by a check, or by what its operation finds on its way. Otherwise it is
-- executed.
abbrev pub outcome : State → (initiator : ℕ) → Result Effect Refusal → Step
outcome state initiator (Ok effect) =
    option_map_or (refused state initiator) effect.found (executed effect)
outcome state initiator (Err refusal) = refused state initiator refusal

-- The step ends with the alert of a threshold, if the command has crossed one.
abbrev pub with_alert : State → (initiator : ℕ) → Step → Step
with_alert before initiator done =
    record done { state = alerted (resources_of before) initiator done.state }

-- The step of a CDB with its data-out.
abbrev pub step : State → (initiator : ℕ) → (cdb data_out : List ℕ) → Step
step state initiator cdb data_out =
    with_alert state initiator
    (outcome state initiator (checked_effect state initiator cdb data_out))
