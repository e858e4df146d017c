-- The layout of command descriptor blocks, CDBs (SPC-4, 4.2; docs/PROFILE.md, "Commands").
use Rattle.std.specs.Prelude.{ℕ, ◌/◌, List, [], ◌∷◌, ◌++◌, map, Bool, true, false, ◌==◌}
use Rattle.std.specs.Prelude.{◌&&◌, if◌then◌else◌}
use Rattle.sg_wire.specs.CdbFields.{Field, Place, Value, extended_field, field}
use Rattle.sg_wire.specs.CdbFields.Place.{bit, bits, bytes, short_extent}
use Rattle.sg_wire.specs.declared.command.Class.{Class}
use Rattle.sg_wire.specs.declared.command.Class.TheVariants.{Always, Reads, Writes}
use Rattle.sg_wire.specs.declared.command.Command.{Command}
use Rattle.sg_wire.specs.declared.command.Command.TheVariants as command
use Rattle.sg_wire.specs.declared.command.block.Extent10.{Extent10}
use Rattle.sg_wire.specs.declared.command.block.Extent12.{Extent12}
use Rattle.sg_wire.specs.declared.command.block.Extent16.{Extent16}
use Rattle.sg_wire.specs.declared.command.block.ReadCapacity16.{ReadCapacity16}
use Rattle.sg_wire.specs.declared.command.block.WriteAtomic16.{WriteAtomic16}
use Rattle.sg_wire.specs.declared.command.block.WriteLong10.{WriteLong10}
use Rattle.sg_wire.specs.declared.command.copy.ExtendedCopy.{ExtendedCopy}
use Rattle.sg_wire.specs.declared.command.copy.ReceiveCopyOperatingParameters.{ReceiveCopyOperatingParameters}
use Rattle.sg_wire.specs.declared.command.diagnostic.LogSense.{LogSense}
use Rattle.sg_wire.specs.declared.command.diagnostic.ReadDefectData10.{ReadDefectData10}
use Rattle.sg_wire.specs.declared.command.diagnostic.ReadDefectData12.{ReadDefectData12}
use Rattle.sg_wire.specs.declared.command.diagnostic.SendDiagnostic.{SendDiagnostic}
use Rattle.sg_wire.specs.declared.command.format.FormatUnit.{FormatUnit}
use Rattle.sg_wire.specs.declared.command.format.Sanitize.{Sanitize}
use Rattle.sg_wire.specs.declared.command.mode.ModeSelect10.{ModeSelect10}
use Rattle.sg_wire.specs.declared.command.mode.ModeSelect6.{ModeSelect6}
use Rattle.sg_wire.specs.declared.command.mode.ModeSense10.{ModeSense10}
use Rattle.sg_wire.specs.declared.command.mode.ModeSense6.{ModeSense6}
use Rattle.sg_wire.specs.declared.command.mode.PageRequest.{PageRequest}
use Rattle.sg_wire.specs.declared.command.primary.Inquiry.{Inquiry}
use Rattle.sg_wire.specs.declared.command.primary.RequestSense.{RequestSense}
use Rattle.sg_wire.specs.declared.command.provisioning.GetLbaStatus.{GetLbaStatus}
use Rattle.sg_wire.specs.declared.command.provisioning.Unmap.{Unmap}
use Rattle.sg_wire.specs.declared.command.provisioning.WriteSame10.{WriteSame10}
use Rattle.sg_wire.specs.declared.command.provisioning.WriteSame16.{WriteSame16}
use Rattle.sg_wire.specs.declared.command.report.ReportLuns.{ReportLuns}
use Rattle.sg_wire.specs.declared.command.report.ReportSupportedOperationCodes.{ReportSupportedOperationCodes}
use Rattle.sg_wire.specs.declared.command.report.ReportSupportedTaskManagementFunctions as functions
use Rattle.sg_wire.specs.declared.command.report.ReportTargetPortGroups.{ReportTargetPortGroups}
use Rattle.sg_wire.specs.declared.command.reservation.PersistentReserveIn.{PersistentReserveIn}
use Rattle.sg_wire.specs.declared.command.reservation.PersistentReserveOut.{PersistentReserveOut}
use Rattle.sg_wire.specs.declared.command.start_stop.StartStopUnit.{StartStopUnit}
use Rattle.sg_wire.specs.declared.command.verify.CompareAndWrite.{CompareAndWrite}
use Rattle.sg_wire.specs.declared.command.verify.Verify10.{Verify10}
use Rattle.sg_wire.specs.declared.command.verify.Verify12.{Verify12}
use Rattle.sg_wire.specs.declared.command.verify.Verify16.{Verify16}
use Rattle.sg_wire.specs.ByteCheck.{byte_check_code}
use Rattle.sg_wire.specs.Commands as make
use Rattle.sg_wire.specs.FreeBits.{FreeBits, cache_bits, diagnostic_bits, dpo_bit, dpo_fua_bits}
use Rattle.sg_wire.specs.FreeBits.{format_bits, group_number, immed_bit, immed_bits, index_bytes}
use Rattle.sg_wire.specs.FreeBits.{length_bytes, log_bits, no_bits, out_bits, sanitize_bits, start_bits}
use Rattle.sg_wire.specs.PageControl.{page_control_code}
use Rattle.sg_wire.specs.ReservationAction.{in_code, out_code, out_profile, each_in_action, each_out_action}
use Rattle.sg_wire.specs.declared.profile.Profile.{Profile}
use Rattle.sg_wire.specs.declared.profile.Profile.TheVariants.{Base, Extended}

-- The function that makes a command of the values of its fields. The fields' places give the types.
abbrev pub Maker : List Field → Type 0
Maker [] = Command
Maker (field ∷ fields) = Value field.place → Maker fields

-- The place of the SERVICE ACTION field (SPC-4, 4.2.5.2).
abbrev pub action_place : Place
action_place = bits 1 4 0

-- The service action of a command: it has none, or this one.
pub data ServiceAction : Type 0 where
  none : ServiceAction
  named : (action : ℕ) → ServiceAction

-- ---- The table

-- A command's CDB, on disks of a profile. All bits outside the fields and the free bits have to be
-- zero, and so has CONTROL, the last byte. The class says how the command meets a reservation of
-- another initiator (SPC-4, 5.13). `blocked_by_attention`: a pending unit attention is reported in
-- place of the command (SAM-5, 5.14).
pub record Layout : Type 0 where
  pub profile : Profile
  pub opcode : ℕ
  pub action : ServiceAction
  pub class : Class
  pub blocked_by_attention : Bool
  pub fields : List Field
  pub free : FreeBits
  pub make : Maker fields

-- A row of a profile.
abbrev row : Profile → ℕ → ServiceAction → Class → Bool → (fields : List Field) → FreeBits
    → Maker fields → Layout
row profile opcode action class blocked fields free make = record {
  profile = profile;
  opcode = opcode;
  action = action;
  class = class;
  blocked_by_attention = blocked;
  fields = fields;
  free = free;
  make = make;
}

-- A row of the base profile: each disk has its command.
abbrev base : ℕ → ServiceAction → Class → Bool → (fields : List Field) → FreeBits → Maker fields
    → Layout
base opcode action class blocked fields free make =
    row Base opcode action class blocked fields free make

-- A row of the extended profile.
abbrev extended : ℕ → ServiceAction → Class → Bool → (fields : List Field) → FreeBits → Maker fields
    → Layout
extended opcode action class blocked fields free make =
    row Extended opcode action class blocked fields free make

-- INQUIRY, REPORT LUNS and REQUEST SENSE are executed in spite of a pending unit attention (SPC-4,
-- 6.6.1, 6.33 and 6.39).
abbrev blocked : Bool
blocked = true

abbrev unblocked : Bool
unblocked = false

-- DESC and ALLOCATION LENGTH.
abbrev request_sense : RequestSense → List Field
request_sense c = field (bit 1 0) c.desc ∷ field (bytes 4 4) c.allocation_length ∷ []

-- EVPD, PAGE CODE and ALLOCATION LENGTH.
abbrev inquiry : Inquiry → List Field
inquiry c =
    field (bit 1 0) c.evpd ∷ field (bytes 2 2) c.page_code ∷ field (bytes 3 4) c.allocation_length ∷ []

-- PF, SP and PARAMETER LIST LENGTH of MODE SELECT.
abbrev select_bits : (pf sp : Bool) → List Field
select_bits pf sp = field (bit 1 4) pf ∷ field (bit 1 0) sp ∷ []

abbrev mode_select_6 : ModeSelect6 → List Field
mode_select_6 c = select_bits c.pf c.sp ++ field (bytes 4 4) c.list_length ∷ []

abbrev mode_select_10 : ModeSelect10 → List Field
mode_select_10 c = select_bits c.pf c.sp ++ field (bytes 7 8) c.list_length ∷ []

-- DBD, PC, PAGE CODE and SUBPAGE CODE of MODE SENSE.
abbrev page_request : PageRequest → List Field
page_request r =
    field (bit 1 3) r.dbd ∷ field (bits 2 7 6) (page_control_code r.page_control)
    ∷ field (bits 2 5 0) r.page_code ∷ field (bytes 3 3) r.subpage_code ∷ []

-- These and ALLOCATION LENGTH, and LLBAA in the CDB of 10 bytes.
abbrev mode_sense_6 : ModeSense6 → List Field
mode_sense_6 c = page_request c.page ++ field (bytes 4 4) c.allocation_length ∷ []

abbrev mode_sense_10 : ModeSense10 → List Field
mode_sense_10 c =
    field (bit 1 4) c.llbaa ∷ page_request c.page ++ field (bytes 7 8) c.allocation_length ∷ []

-- LOGICAL BLOCK ADDRESS and TRANSFER LENGTH, NUMBER OF LOGICAL BLOCKS or PREFETCH LENGTH, in CDBs of
-- 6, 10, 12 and 16 bytes.
abbrev pub extent_6 : ℕ × ℕ → List Field
extent_6 extent = field short_extent extent ∷ []

abbrev pub extent_10 : Extent10 → List Field
extent_10 c = field (bytes 2 5) c.lba ∷ field (bytes 7 8) c.count ∷ []

abbrev pub extent_12 : Extent12 → List Field
extent_12 c = field (bytes 2 5) c.lba ∷ field (bytes 6 9) c.count ∷ []

abbrev pub extent_16 : Extent16 → List Field
extent_16 c = field (bytes 2 9) c.lba ∷ field (bytes 10 13) c.count ∷ []

-- ALLOCATION LENGTH.
abbrev read_capacity_16 : ReadCapacity16 → List Field
read_capacity_16 c = field (bytes 10 13) c.allocation_length ∷ []

-- ANCHOR, UNMAP, LOGICAL BLOCK ADDRESS and NUMBER OF LOGICAL BLOCKS of WRITE SAME.
abbrev write_same_bits : (anchor unmap : Bool) → List Field
write_same_bits anchor unmap = field (bit 1 4) anchor ∷ field (bit 1 3) unmap ∷ []

abbrev write_same_10 : WriteSame10 → List Field
write_same_10 c =
    write_same_bits c.anchor c.unmap
    ++ field (bytes 2 5) c.lba ∷ field (bytes 7 8) c.count ∷ []

-- WRITE SAME(16) has NDOB, too.
-- Departure (SBC-3, 5.44): a base disk lacks NDOB.
abbrev write_same_16 : WriteSame16 → List Field
write_same_16 c =
    write_same_bits c.anchor c.unmap
    ++ extended_field (bit 1 0) c.ndob ∷ field (bytes 2 9) c.lba ∷ field (bytes 10 13) c.count ∷ []

-- ANCHOR, GROUP NUMBER and PARAMETER LIST LENGTH.
abbrev unmap : Unmap → List Field
unmap c =
    field (bit 1 0) c.anchor ∷ field (bits 6 4 0) c.group ∷ field (bytes 7 8) c.list_length ∷ []

-- COR_DIS, WR_UNCOR, LOGICAL BLOCK ADDRESS and BYTE TRANSFER LENGTH.
-- Choice (SBC-3, 5.41): PBLOCK is refused, of whichever length a physical block is.
abbrev write_long_10 : WriteLong10 → List Field
write_long_10 c =
    field (bit 1 7) c.cor_dis ∷ field (bit 1 6) c.wr_uncor ∷ field (bytes 2 5) c.lba
    ∷ field (bytes 7 8) c.length ∷ []

-- LOGICAL BLOCK ADDRESS and NUMBER OF LOGICAL BLOCKS, which has one byte.
abbrev compare_and_write : CompareAndWrite → List Field
compare_and_write c = field (bytes 2 9) c.lba ∷ field (bytes 13 13) c.count ∷ []

-- LONGLIST and FMTDATA of FORMAT UNIT.
abbrev format_unit : FormatUnit → List Field
format_unit c = field (bit 1 5) c.long_list ∷ field (bit 1 4) c.format_data ∷ []

-- PARAMETER LIST LENGTH of SANITIZE.
abbrev pub sanitize : Sanitize → List Field
sanitize c = field (bytes 7 8) c.list_length ∷ []

-- LOGICAL BLOCK ADDRESS, ATOMIC BOUNDARY and TRANSFER LENGTH.
abbrev write_atomic_16 : WriteAtomic16 → List Field
write_atomic_16 c =
    field (bytes 2 9) c.lba ∷ field (bytes 10 11) c.boundary ∷ field (bytes 12 13) c.count ∷ []

-- BYTCHK, LOGICAL BLOCK ADDRESS, and VERIFICATION LENGTH or TRANSFER LENGTH.
abbrev pub verify_10 : Verify10 → List Field
verify_10 c = field (bits 1 2 1) (byte_check_code c.byte_check) ∷ extent_10 c.extent

abbrev pub verify_12 : Verify12 → List Field
verify_12 c = field (bits 1 2 1) (byte_check_code c.byte_check) ∷ extent_12 c.extent

abbrev pub verify_16 : Verify16 → List Field
verify_16 c = field (bits 1 2 1) (byte_check_code c.byte_check) ∷ extent_16 c.extent

-- REQ_PLIST, REQ_GLIST, DEFECT LIST FORMAT and ALLOCATION LENGTH. The CDB of 12 bytes has ADDRESS
-- DESCRIPTOR INDEX, too.
abbrev read_defect_data_10 : ReadDefectData10 → List Field
read_defect_data_10 c =
    field (bit 2 4) c.plist ∷ field (bit 2 3) c.glist ∷ field (bits 2 2 0) c.format
    ∷ field (bytes 7 8) c.allocation_length ∷ []

abbrev read_defect_data_12 : ReadDefectData12 → List Field
read_defect_data_12 c =
    field (bit 1 4) c.plist ∷ field (bit 1 3) c.glist ∷ field (bits 1 2 0) c.format
    ∷ field (bytes 2 5) c.index ∷ field (bytes 6 9) c.allocation_length ∷ []

-- POWER CONDITION MODIFIER, POWER CONDITION, LOEJ and START.
abbrev start_stop_unit : StartStopUnit → List Field
start_stop_unit c =
    field (bits 3 3 0) c.power_condition_modifier ∷ field (bits 4 7 4) c.power_condition
    ∷ field (bit 4 1) c.loej ∷ field (bit 4 0) c.start ∷ []

-- A START STOP UNIT that starts the unit, and asks for no power condition, is allowed under every
-- reservation (SBC-3, 4.17). Any other one is a command that writes.
abbrev start_class : StartStopUnit → Class
start_class c = if c.start && c.power_condition == 0 then Always else Writes

-- SELF-TEST CODE, SELFTEST and PARAMETER LIST LENGTH.
abbrev send_diagnostic : SendDiagnostic → List Field
send_diagnostic c =
    field (bits 1 7 5) c.code ∷ field (bit 1 2) c.self_test ∷ field (bytes 3 4) c.list_length ∷ []

-- PARAMETER LIST LENGTH.
abbrev extended_copy : ExtendedCopy → List Field
extended_copy c = field (bytes 10 13) c.list_length ∷ []

-- ALLOCATION LENGTH.
abbrev receive_copy_parameters : ReceiveCopyOperatingParameters → List Field
receive_copy_parameters c = field (bytes 10 13) c.allocation_length ∷ []

-- PAGE CODE, SUBPAGE CODE, PARAMETER POINTER and ALLOCATION LENGTH.
abbrev log_sense : LogSense → List Field
log_sense c =
    field (bits 2 5 0) c.page_code ∷ field (bytes 3 3) c.subpage_code
    ∷ field (bytes 5 6) c.parameter_pointer ∷ field (bytes 7 8) c.allocation_length ∷ []

-- SELECT REPORT and ALLOCATION LENGTH.
abbrev report_luns : ReportLuns → List Field
report_luns c = field (bytes 2 2) c.select ∷ field (bytes 6 9) c.allocation_length ∷ []

-- RCTD, REPORTING OPTIONS, REQUESTED OPERATION CODE, REQUESTED SERVICE ACTION and ALLOCATION LENGTH.
abbrev report_operation_codes : ReportSupportedOperationCodes → List Field
report_operation_codes c =
    field (bit 2 7) c.timeouts ∷ field (bits 2 2 0) c.options ∷ field (bytes 3 3) c.opcode
    ∷ field (bytes 4 5) c.action ∷ field (bytes 6 9) c.allocation_length ∷ []

-- REPD and ALLOCATION LENGTH.
abbrev report_task_management : functions.ReportSupportedTaskManagementFunctions → List Field
report_task_management c = field (bit 2 7) c.timeouts ∷ field (bytes 6 9) c.allocation_length ∷ []

-- PARAMETER DATA FORMAT, which shares its byte with the service action, and ALLOCATION LENGTH.
abbrev report_port_groups : ReportTargetPortGroups → List Field
report_port_groups c = field (bits 1 7 5) c.format ∷ field (bytes 6 9) c.allocation_length ∷ []

-- STARTING LOGICAL BLOCK ADDRESS and ALLOCATION LENGTH.
abbrev get_lba_status : GetLbaStatus → List Field
get_lba_status c = field (bytes 2 9) c.start ∷ field (bytes 10 13) c.allocation_length ∷ []

-- ALLOCATION LENGTH. The service action is in the row.
abbrev reserve_in : PersistentReserveIn → List Field
reserve_in c = field (bytes 7 8) c.allocation_length ∷ []

-- SCOPE and TYPE, which share a byte, and PARAMETER LIST LENGTH.
abbrev reserve_out : PersistentReserveOut → List Field
reserve_out c = field (bytes 2 2) c.scope_type ∷ field (bytes 5 8) c.list_length ∷ []

-- ---- The rows

-- A row of a command that names a range of blocks and nothing else, in a CDB of 10 bytes, and of 16.
abbrev range_10 : (opcode : ℕ) → Class → FreeBits → (Extent10 → Command) → Extent10 → Layout
range_10 opcode class free command c =
    base opcode none class blocked (extent_10 c) free (make.naming_10 command)

abbrev range_12 : (opcode : ℕ) → Class → FreeBits → (Extent12 → Command) → Extent12 → Layout
range_12 opcode class free command c =
    extended opcode none class blocked (extent_12 c) free (make.naming_12 command)

abbrev range_16 : (opcode : ℕ) → Class → FreeBits → (Extent16 → Command) → Extent16 → Layout
range_16 opcode class free command c =
    base opcode none class blocked (extent_16 c) free (make.naming_16 command)

-- A row of a service action of SANITIZE.
abbrev sanitizing : (action : ℕ) → (Sanitize → Command) → Sanitize → Layout
sanitizing action command c =
    extended 0x48 (named action) Writes blocked (sanitize c) sanitize_bits (make.sanitizing command)

abbrev in_extended : Layout → Layout
in_extended l = record l { profile = Extended }

-- One row for each command: profile, operation code, service action, class, unit attention, fields,
-- free bits, and the command itself. The commands of SPC-4, 6, come first, and then the commands of
-- SBC-3, 5 (READ(6) and WRITE(6) of SBC-2). Last come PERSISTENT RESERVE IN and OUT of SPC-4, which
-- have service actions. All rows of an operation code are of one profile; only REGISTER AND MOVE of
-- PERSISTENT RESERVE OUT is of another one than the others.
abbrev pub layout : Command → Layout
layout command.TestUnitReady = base 0x00 none Always blocked [] no_bits command.TestUnitReady
layout (command.RequestSense c) =
    base 0x03 none Always unblocked (request_sense c) no_bits make.request_sense
layout (command.Inquiry c) = base 0x12 none Always unblocked (inquiry c) no_bits make.inquiry
layout (command.ModeSelect6 c) = base 0x15 none Writes blocked (mode_select_6 c) no_bits make.mode_select_6
layout (command.ModeSelect10 c) =
    base 0x55 none Writes blocked (mode_select_10 c) no_bits make.mode_select_10
layout (command.ModeSense6 c) = base 0x1A none Reads blocked (mode_sense_6 c) no_bits make.mode_sense_6
layout (command.ModeSense10 c) = base 0x5A none Reads blocked (mode_sense_10 c) no_bits make.mode_sense_10
layout (command.LogSense c) =
    extended 0x4D none Always blocked (log_sense c) log_bits make.log_sense
layout (command.ReportLuns c) =
    extended 0xA0 none Always unblocked (report_luns c) no_bits make.report_luns
layout (command.ReportSupportedOperationCodes c) =
    extended 0xA3 (named 0x0C) Reads blocked (report_operation_codes c) no_bits
    make.report_operation_codes
layout (command.ReportSupportedTaskManagementFunctions c) =
    extended 0xA3 (named 0x0D) Reads blocked (report_task_management c) no_bits
    make.report_task_management
layout (command.ReportTargetPortGroups c) =
    extended 0xA3 (named 0x0A) Always blocked (report_port_groups c) no_bits make.report_port_groups
layout (command.SendDiagnostic c) =
    extended 0x1D none Writes blocked (send_diagnostic c) diagnostic_bits make.send_diagnostic
layout (command.ExtendedCopy c) =
    extended 0x83 (named 0x00) Writes blocked (extended_copy c) no_bits make.extended_copy
layout (command.ReceiveCopyOperatingParameters c) =
    extended 0x84 (named 0x03) Writes blocked (receive_copy_parameters c) no_bits
    make.receive_copy_operating_parameters
layout (command.CompareAndWrite c) =
    extended 0x89 none Writes blocked (compare_and_write c) (cache_bits 14) make.compare_and_write
layout (command.FormatUnit c) =
    extended 0x04 none Writes blocked (format_unit c) format_bits make.format_unit
layout (command.OrWrite16 c) =
    in_extended (range_16 0x8B Writes (cache_bits 14) command.OrWrite16 c)
layout (command.PreFetch10 c) =
    in_extended (range_10 0x34 Reads (immed_bit 6) command.PreFetch10 c)
layout (command.PreFetch16 c) =
    in_extended (range_16 0x90 Reads (immed_bit 14) command.PreFetch16 c)
layout (command.Read6 c) = base 0x08 none Reads blocked (extent_6 c) no_bits command.Read6
layout (command.Read10 c) = range_10 0x28 Reads (cache_bits 6) command.Read10 c
layout (command.Read12 c) = range_12 0xA8 Reads (cache_bits 10) command.Read12 c
layout (command.Read16 c) = range_16 0x88 Reads (cache_bits 14) command.Read16 c
layout (command.Write6 c) = base 0x0A none Writes blocked (extent_6 c) no_bits command.Write6
layout (command.Write10 c) = range_10 0x2A Writes (cache_bits 6) command.Write10 c
layout (command.Write12 c) = range_12 0xAA Writes (cache_bits 10) command.Write12 c
layout (command.Write16 c) = range_16 0x8A Writes (cache_bits 14) command.Write16 c
layout command.ReadCapacity10 = base 0x25 none Always blocked [] no_bits command.ReadCapacity10
layout (command.ReadCapacity16 c) =
    base 0x9E (named 0x10) Always blocked (read_capacity_16 c) no_bits make.read_capacity_16
layout (command.ReadDefectData10 c) =
    extended 0x37 none Reads blocked (read_defect_data_10 c) no_bits make.read_defect_data_10
layout (command.ReadDefectData12 c) =
    extended 0xB7 none Reads blocked (read_defect_data_12 c) index_bytes make.read_defect_data_12
layout (command.SanitizeBlockErase c) = sanitizing 0x02 command.SanitizeBlockErase c
layout (command.SanitizeCryptographicErase c) = sanitizing 0x03 command.SanitizeCryptographicErase c
layout (command.SanitizeExitFailureMode c) = sanitizing 0x1F command.SanitizeExitFailureMode c
layout (command.StartStopUnit c) =
    extended 0x1B none (start_class c) blocked (start_stop_unit c) start_bits make.start_stop_unit
layout (command.SynchronizeCache10 c) = range_10 0x35 Writes (immed_bits 6) command.SynchronizeCache10 c
layout (command.SynchronizeCache16 c) =
    in_extended (range_16 0x91 Writes (immed_bits 14) command.SynchronizeCache16 c)
layout (command.Verify10 c) =
    extended 0x2F none Reads blocked (verify_10 c) (dpo_bit 6) make.verify_10
layout (command.Verify12 c) =
    extended 0xAF none Reads blocked (verify_12 c) (dpo_bit 10) make.verify_12
layout (command.Verify16 c) =
    extended 0x8F none Reads blocked (verify_16 c) (dpo_bit 14) make.verify_16
layout (command.WriteAndVerify10 c) =
    extended 0x2E none Writes blocked (verify_10 c) (dpo_bit 6) make.write_and_verify_10
layout (command.WriteAndVerify12 c) =
    extended 0xAE none Writes blocked (verify_12 c) (dpo_bit 10) make.write_and_verify_12
layout (command.WriteAndVerify16 c) =
    extended 0x8E none Writes blocked (verify_16 c) (dpo_bit 14) make.write_and_verify_16
layout (command.WriteAtomic16 c) =
    extended 0x9C none Writes blocked (write_atomic_16 c) (dpo_fua_bits 14) make.write_atomic_16
layout (command.WriteLong10 c) =
    extended 0x3F none Writes blocked (write_long_10 c) length_bytes make.write_long_10
layout (command.WriteSame10 c) =
    base 0x41 none Writes blocked (write_same_10 c) (group_number 6) make.write_same_10
layout (command.WriteSame16 c) =
    base 0x93 none Writes blocked (write_same_16 c) (group_number 14) make.write_same_16
layout (command.Unmap c) =
    base 0x42 none Writes blocked (unmap c) (group_number 6) make.unmap
layout (command.GetLbaStatus c) =
    base 0x9E (named 0x12) Reads blocked (get_lba_status c) no_bits make.get_lba_status
layout (command.PersistentReserveIn c) =
    base 0x5E (named (in_code c.action)) Always blocked (reserve_in c) no_bits (make.reserve_in c.action)
layout (command.PersistentReserveOut c) =
    row (out_profile c.action) 0x5F (named (out_code c.action)) Always blocked (reserve_out c)
    (out_bits c.action) (make.reserve_out c.action)

-- Each command once; if its service action is a value of it, the command comes once with each
-- service action. Only the places of its fields matter here, not their values.
-- Departure (SPC-4, 6.33): REPORT LUNS is mandatory there, and a base disk lacks it.
-- Departure (SBC-3, 5.3): FORMAT UNIT is mandatory there, and a base disk lacks it.
-- Departure (SPC-4, 6.42): SEND DIAGNOSTIC is mandatory for a disk there, and a base disk lacks it.
abbrev pub each_command : List Command
each_command =
    command.TestUnitReady
    ∷ make.request_sense false 0
    ∷ make.inquiry false 0 0
    ∷ make.mode_select_6 false false 0
    ∷ make.mode_select_10 false false 0
    ∷ make.mode_sense_6 false 0 0 0 0
    ∷ make.mode_sense_10 false false 0 0 0 0
    ∷ make.log_sense 0 0 0 0
    ∷ make.report_luns 0 0
    ∷ make.report_operation_codes false 0 0 0 0
    ∷ make.report_task_management false 0
    ∷ make.report_port_groups 0 0
    ∷ make.send_diagnostic 0 false 0
    ∷ make.extended_copy 0
    ∷ make.receive_copy_operating_parameters 0
    ∷ make.compare_and_write 0 0
    ∷ make.format_unit false false
    ∷ command.OrWrite16 make.no_blocks_16
    ∷ command.PreFetch10 make.no_blocks_10
    ∷ command.PreFetch16 make.no_blocks_16
    ∷ command.Read6 (0, 1)
    ∷ command.Read10 make.no_blocks_10
    ∷ command.Read12 make.no_blocks_12
    ∷ command.Read16 make.no_blocks_16
    ∷ command.Write6 (0, 1)
    ∷ command.Write10 make.no_blocks_10
    ∷ command.Write12 make.no_blocks_12
    ∷ command.Write16 make.no_blocks_16
    ∷ command.ReadCapacity10
    ∷ make.read_capacity_16 0
    ∷ make.read_defect_data_10 false false 0 0
    ∷ make.read_defect_data_12 false false 0 0 0
    ∷ make.sanitizing command.SanitizeBlockErase 0
    ∷ make.sanitizing command.SanitizeCryptographicErase 0
    ∷ make.sanitizing command.SanitizeExitFailureMode 0
    ∷ make.start_stop_unit 0 0 false false
    ∷ command.SynchronizeCache10 make.no_blocks_10
    ∷ command.SynchronizeCache16 make.no_blocks_16
    ∷ make.verify_10 0 0 0
    ∷ make.verify_12 0 0 0
    ∷ make.verify_16 0 0 0
    ∷ make.write_and_verify_10 0 0 0
    ∷ make.write_and_verify_12 0 0 0
    ∷ make.write_and_verify_16 0 0 0
    ∷ make.write_atomic_16 0 0 0
    ∷ make.write_long_10 false false 0 0
    ∷ make.write_same_10 false false 0 0
    ∷ make.write_same_16 false false false 0 0
    ∷ make.unmap false 0 0
    ∷ make.get_lba_status 0 0
    ∷ map (λ action. make.reserve_in action 0) each_in_action
    ++ map (λ action. make.reserve_out action 0 0) each_out_action

abbrev pub table : List Layout
table = map layout each_command

-- The length of a CDB follows from the group code, the top three bits of the operation code (SPC-4,
-- 4.2.5.1). The table has rows of groups 0, 1, 2, 4 and 5.
abbrev pub length_of : ℕ → ℕ
length_of opcode =
    let group = opcode / 32 in
    if group == 0 then 6 else (if group == 4 then 16 else (if group == 5 then 12 else 10))
