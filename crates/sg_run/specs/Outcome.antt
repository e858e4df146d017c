-- A line and the disk before it have an outcome: a text, an exit status and the disk after it. The
-- disk is its state and the faults that are armed on it.
use Rattle.std.specs.Prelude.{ℕ, ◌*◌, List, [], ◌∷◌, ◌++◌, replicate, Option, codes, decimal, Ok, Err}
use Rattle.std.specs.Prelude.{Bool, if◌then◌else◌}
use Rattle.sg_wire.specs.CdbEncoding.{cdb_of}
use Rattle.sg_wire.specs.SenseReading.{read_sense}
use Rattle.sg_decode.specs.SenseText.{sense_line}
use Rattle.sg_wire.specs.Commands.{naming_16}
use Rattle.sg_wire.specs.declared.command.Command.{Command}
use Rattle.sg_wire.specs.declared.command.Command.TheVariants.{Write16}
use Rattle.sg_tools.specs.ExitStatus.{exit_status}
use Rattle.sg_pages.specs.BlockDescriptor.{logical_block_length}
use Rattle.sg_target.specs.Armed.{Armed, ArmedStep, armed_step}
use Rattle.sg_target.specs.declared.happening.Happening.{Happening}
use Rattle.sg_target.specs.declared.happening.Happening.TheVariants.{Power, LogicalUnitReset}
use Rattle.sg_target.specs.declared.happening.Happening.TheVariants.{TargetReset, NexusLoss}
use Rattle.sg_target.specs.declared.happening.Happening.TheVariants.{Establish, Grow}
use Rattle.sg_target.specs.declared.happening.Happening.TheVariants.{Arm, Disarm, DisarmAll}
use Rattle.sg_target.specs.Runs.{armed_after_happening}
use Rattle.sg_target.specs.State.{profile_of}
use Rattle.sg_target.specs.Status.{status_code}
use Rattle.sg_target.specs.declared.reply.Status.{Status}
use Rattle.sg_target.specs.declared.reply.Status.TheVariants.{Good, CheckCondition, ReservationConflict}
use Rattle.sg_target.specs.declared.reply.Status.TheVariants.{Busy, TaskSetFull, NoReply}
use Rattle.sg_tools.specs.ParameterLists.{parameter_list}
use Rattle.sg_tools.specs.Requests.{Request as ToolRequest}
use Rattle.sg_tools.specs.ShowKinds.{shown_in}
use Rattle.sg_tools.specs.declared.show.Show.{Show}
use Rattle.sg_tools.specs.declared.show.Show.TheVariants.{Hex, Nothing}
use Rattle.sg_tools.specs.declared.tool.Tool.{Tool}
use Rattle.sg_run.specs.AnswerText.{answer_text}
use Rattle.sg_run.specs.FaultText.{faults_text}
use Rattle.sg_run.specs.LineFault.{fault_message, fault_of_tool, fault_status}
use Rattle.sg_run.specs.Request.{LineRequest, happen, nothing, faulty, send, fill, run_tool}
use Rattle.sg_run.specs.Request.{list_faults, request_of, show_answer}
use Rattle.sg_run.specs.declared.request.line_fault.LineFault.{LineFault}
use Rattle.sg_run.specs.declared.request.line_fault.LineFault.TheVariants.{OutOfMemory}

-- The text that is printed, the exit status, and the disk afterwards.
pub record Outcome : Type 0 where
  pub text : List ℕ
  pub status : ℕ
  pub disk : Armed

-- Nothing is printed, and the disk stays.
abbrev pub silent : Armed → Outcome
silent disk = record { text = []; status = 0; disk = disk }

-- The first line of a line's text: its number, and a message about it.
abbrev pub line_header : (number : ℕ) → (message : List ℕ) → List ℕ
line_header number message = codes "line " ++ (decimal number ++ (codes ": " ++ (message ++ codes "\n")))

abbrev pub status_name : Status → List ℕ
status_name Good = codes "GOOD"
status_name CheckCondition = codes "CHECK CONDITION"
status_name ReservationConflict = codes "RESERVATION CONFLICT"
status_name Busy = codes "BUSY"
status_name TaskSetFull = codes "TASK SET FULL"
status_name NoReply = codes "NO REPLY"

-- The line of sense data, if there is some.
abbrev pub sense_lines : (sense : List ℕ) → List ℕ
sense_lines [] = []
sense_lines (byte ∷ bytes) = sense_line (byte ∷ bytes)

-- Data-in is shown if the command ended with GOOD.
abbrev pub shown_answer : Status → Show → (data_in : List ℕ) → List ℕ
shown_answer Good show data_in = answer_text show data_in
shown_answer _ show data_in = []

-- A command's status, its sense data if it has some, and its data-in.
abbrev pub reply_text : (number : ℕ) → Show → Status → (sense data_in : List ℕ) → List ℕ
reply_text number show status sense data_in =
    line_header number (status_name status) ++ (sense_lines sense ++ shown_answer status show data_in)

abbrev pub reply_outcome : (number : ℕ) → Show → ArmedStep → Outcome
reply_outcome number show s = let answer = s.answer in record {
  text = reply_text number show answer.status answer.sense answer.data_in;
  status = exit_status (status_code answer.status) (read_sense answer.sense);
  disk = s.after;
}

abbrev pub fault_outcome : (number : ℕ) → Armed → LineFault → Outcome
fault_outcome number disk fault = record {
  text = line_header number (fault_message fault);
  status = fault_status fault;
  disk = disk;
}

-- Bytes are shown as an answer, and no command is sent.
abbrev pub shown_outcome : (number : ℕ) → Armed → Show → (bytes : List ℕ) → Outcome
shown_outcome number disk kind bytes = record {
  text = line_header number (codes "SHOWN") ++ answer_text kind bytes;
  status = 0;
  disk = disk;
}

-- The name of a happening in a transcript.
abbrev pub happening_name : Happening → List ℕ
happening_name Power = codes "POWER"
happening_name LogicalUnitReset = codes "RESET"
happening_name TargetReset = codes "TARGET RESET"
happening_name (NexusLoss initiator) = codes "NEXUS LOSS"
happening_name (Establish condition initiators) = codes "ATTENTION"
happening_name (Grow capacity) = codes "GROW"
happening_name (Arm fault) = codes "FAULT"
happening_name (Disarm number) = codes "HEAL"
happening_name DisarmAll = codes "HEAL"

-- Something happens to the disk.
abbrev pub happening_outcome : (number : ℕ) → Armed → Happening → Outcome
happening_outcome number disk happening = record {
  text = line_header number (happening_name happening);
  status = 0;
  disk = armed_after_happening disk happening;
}

-- The armed faults are listed.
abbrev pub faults_outcome : (number : ℕ) → Armed → Outcome
faults_outcome number disk = record {
  text = line_header number (codes "FAULTS") ++ faults_text (profile_of disk.state) disk.faults;
  status = 0;
  disk = disk;
}

-- `fill` is WRITE(16) (SBC-3, 5.35) of blocks of one byte.
abbrev pub write_16 : (lba count : ℕ) → Command
write_16 lba count = naming_16 Write16 lba count

abbrev pub fill_step : Armed → (initiator lba count byte : ℕ) → ArmedStep
fill_step disk initiator lba count byte =
    armed_step disk initiator (cdb_of (write_16 lba count))
    (replicate (logical_block_length * count) byte)

abbrev pub tool_step : Armed → (initiator : ℕ) → Tool → ArmedStep
tool_step disk initiator tool =
    armed_step disk initiator (cdb_of tool.command) (parameter_list tool.parameters)

-- The profile of the disk says how the answer is shown.
abbrev pub tool_outcome : (number : ℕ) → Armed → (initiator : ℕ) → ToolRequest → Outcome
tool_outcome number disk initiator (Err fault) = fault_outcome number disk (fault_of_tool fault)
tool_outcome number disk initiator (Ok tool) =
    reply_outcome number (shown_in (profile_of disk.state) tool.show) (tool_step disk initiator tool)

-- Only a tool takes memory, to read its words.
abbrev pub by_request : (number : ℕ) → (out_of_memory : Bool) → Armed → LineRequest → Outcome
by_request number out_of_memory disk nothing = silent disk
by_request number out_of_memory disk (faulty fault) = fault_outcome number disk fault
by_request number out_of_memory disk (send initiator cdb data_out) =
    reply_outcome number Hex (armed_step disk initiator cdb data_out)
by_request number out_of_memory disk (fill initiator lba count byte) =
    reply_outcome number Nothing (fill_step disk initiator lba count byte)
by_request number out_of_memory disk (show_answer kind bytes) =
    shown_outcome number disk kind bytes
by_request number out_of_memory disk (happen happening) =
    happening_outcome number disk happening
by_request number out_of_memory disk list_faults = faults_outcome number disk
by_request number out_of_memory disk (run_tool initiator request) =
    if out_of_memory then fault_outcome number disk OutOfMemory
    else tool_outcome number disk initiator request

-- The outcome of the line with a number, by what is kept of it, and by whether a tool was refused
-- memory. Nothing is kept of a line that is too long.
unfoldable pub outcome : (number : ℕ) → (line : Option (List ℕ)) → (out_of_memory : Bool) → Armed
    → Outcome
outcome number line out_of_memory disk =
    by_request number out_of_memory disk (request_of (profile_of disk.state) line)
