-- Why a command is refused, and the sense data that reports it.
use Rattle.std.specs.Prelude.{ℕ, List, [], ◌∷◌, Option, Some, None, Result, Ok, Err, Bool, true, false}
use Rattle.std.specs.Result.{result_map_both}
use Rattle.sg_copy.specs.CopyFaults.{copy_sense}
use Rattle.sg_wire.specs.SenseData.{SenseFields}
use Rattle.sg_wire.specs.SenseKey.{no_sense, not_ready, illegal_request, unit_attention, data_protect}
use Rattle.sg_wire.specs.SenseKey.{aborted_command, miscompare}
use Rattle.sg_wire.specs.declared.command.CdbFault.{CdbFault}
use Rattle.sg_wire.specs.declared.command.CdbFault.TheVariants.{Empty, Opcode, Short, Field}
use Rattle.sg_faults.specs.SenseCode.{key_code}
use Rattle.sg_faults.specs.declared.sense_code.SenseCode.{SenseCode}
use Rattle.sg_units.specs.UnitAttention.{code_of}
use Rattle.sg_units.specs.declared.unit_attention.UnitAttention.{UnitAttention}
use Rattle.sg_target.specs.declared.refusal.Reason.{Reason}
use Rattle.sg_target.specs.declared.refusal.Reason.TheVariants.{InvalidFieldInCdb}
use Rattle.sg_target.specs.declared.refusal.Reason.TheVariants.{InvalidCommandOperationCode}
use Rattle.sg_target.specs.declared.refusal.Reason.TheVariants.{UnitAttention as Attention}
use Rattle.sg_target.specs.declared.refusal.Reason.TheVariants.{DataPhaseError}
use Rattle.sg_target.specs.declared.refusal.Reason.TheVariants.{ParameterListLengthError}
use Rattle.sg_target.specs.declared.refusal.Reason.TheVariants.{InvalidFieldInParameterList}
use Rattle.sg_target.specs.declared.refusal.Reason.TheVariants.{InsufficientRegistrationResources}
use Rattle.sg_target.specs.declared.refusal.Reason.TheVariants.{InsufficientResources}
use Rattle.sg_target.specs.declared.refusal.Reason.TheVariants.{InvalidRelease, LbaOutOfRange}
use Rattle.sg_target.specs.declared.refusal.Reason.TheVariants.{SpaceAllocationFailed, Fault}
use Rattle.sg_target.specs.declared.refusal.Reason.TheVariants.{NotReady}
use Rattle.sg_target.specs.declared.refusal.Reason.TheVariants.{SoftwareWriteProtected, WriteProtected}
use Rattle.sg_target.specs.declared.refusal.Reason.TheVariants.{Copy, InvalidInformationUnit, Miscompare}
use Rattle.sg_target.specs.declared.refusal.Refusal.{Refusal}
use Rattle.sg_target.specs.declared.refusal.Refusal.TheVariants.{CheckCondition}

-- A sense key with an additional sense code and its qualifier (SPC-4, annex on numeric order
-- codes), without INFORMATION and field pointer.
abbrev pub plain_sense : (key asc ascq : ℕ) → SenseFields
plain_sense key asc ascq =
    record { key = key; asc = asc; ascq = ascq; information = None; pointer = None }

abbrev pub fault_sense : SenseCode → SenseFields
fault_sense code = plain_sense (key_code code.key) code.asc code.ascq

-- An invalid field has a pointer to its byte in the CDB or in the parameter list (SPC-4,
-- 4.5.2.4.2). A logical block address out of range is INFORMATION (SPC-4, 4.5.2.2).
-- A difference has the offset of its byte as INFORMATION (SBC-3, 5.2).
-- Choice (SPC-4, 4.5.2.2): INFORMATION may be left out.
abbrev pub sense_of : Reason → SenseFields
sense_of (Attention condition) = plain_sense unit_attention (code_of condition).0 (code_of condition).1
sense_of InvalidCommandOperationCode = plain_sense illegal_request 0x20 0x00
sense_of (InvalidFieldInCdb byte) =
    record (plain_sense illegal_request 0x24 0x00)
    { pointer = Some (record { in_command = true; byte = byte }) }
sense_of InvalidInformationUnit = plain_sense illegal_request 0x0E 0x03
sense_of DataPhaseError = plain_sense aborted_command 0x4B 0x00
sense_of ParameterListLengthError = plain_sense illegal_request 0x1A 0x00
sense_of (InvalidFieldInParameterList byte) =
    record (plain_sense illegal_request 0x26 0x00)
    { pointer = Some (record { in_command = false; byte = byte }) }
sense_of InvalidRelease = plain_sense illegal_request 0x26 0x04
sense_of InsufficientRegistrationResources = plain_sense illegal_request 0x55 0x04
sense_of InsufficientResources = plain_sense illegal_request 0x55 0x03
sense_of NotReady = plain_sense not_ready 0x04 0x02
sense_of (LbaOutOfRange lba) = record (plain_sense illegal_request 0x21 0x00) { information = Some lba }
sense_of WriteProtected = plain_sense data_protect 0x27 0x00
sense_of SoftwareWriteProtected = plain_sense data_protect 0x27 0x02
sense_of SpaceAllocationFailed = plain_sense data_protect 0x27 0x07
sense_of (Miscompare offset) = record (plain_sense miscompare 0x1D 0x00) { information = Some offset }
sense_of (Copy fault) = copy_sense fault
sense_of (Fault code first_bad) = record (fault_sense code) { information = first_bad }

-- The sense data of REQUEST SENSE: the oldest unit attention. Without one, it says that the unit is not
-- ready if it is stopped, and NO SENSE otherwise.
abbrev pub pending_sense : (stopped : Bool) → Option UnitAttention → SenseFields
pending_sense stopped (Some condition) = sense_of (Attention condition)
pending_sense true None = sense_of NotReady
pending_sense false None = plain_sense no_sense 0x00 0x00

-- A CDB that is no command: the pointer is to the byte in error. If the CDB ends early, it is to
-- the first byte that is missing.
abbrev pub reason_for : CdbFault → Reason
reason_for Empty = InvalidFieldInCdb 0
reason_for Opcode = InvalidCommandOperationCode
reason_for (Short length) = InvalidFieldInCdb length
reason_for (Field byte) = InvalidFieldInCdb byte

abbrev pub refusal_for : CdbFault → Refusal
refusal_for fault = CheckCondition (reason_for fault)

-- ---- Checks in order

-- The first check that refuses decides.
abbrev pub first_some : {A : Type 0} → List (Option A) → Option A
first_some [] = None
first_some (Some x ∷ rest) = Some x
first_some (None ∷ rest) = first_some rest

abbrev pub unless_refused : {A : Type 0} → Option Refusal → Result A Refusal → Result A Refusal
unless_refused None result = result
unless_refused (Some refusal) result = Err refusal

-- What the next check makes of a value, or the refusal of the value.
abbrev pub checked_next : {A B : Type 0} → Result A Refusal → (A → Result B Refusal)
    → Result B Refusal
checked_next (Ok value) next = next value
checked_next (Err refusal) next = Err refusal

-- A value that was found sound, or the refusal that reports what is wrong with it.
abbrev pub or_refused : {A F : Type 0} → (F → Refusal) → Result A F → Result A Refusal
or_refused refusal found = result_map_both (λ value. value) refusal found

-- The result made of a value that was found sound, or the refusal if it was not.
abbrev pub when_sound : {A B : Type 0} → Result A Refusal → (A → B) → Result B Refusal
when_sound found becomes = checked_next found (λ value. Ok (becomes value))
