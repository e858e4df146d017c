-- The code's table of commands: each row has what the command's layout says, and each CDB gets the
-- row of its command.
use Rattle.std.specs.Prelude.{ℕ, ◌≡◌, ◌≤◌, List, [], length, map, slice_index, Bool, true}
use Rattle.std.specs.Prelude.{false, filter, ◌==◌, ◌&&◌}
use Rattle.std.specs.Prelude.{Option, Some, None, Result, Ok, Err, find, nat_lt, if◌then◌else◌}
use Rattle.sg_wire.specs.CdbDecoding.{class_by_row, command_by_row, command_by_rows}
use Rattle.sg_wire.specs.CdbDecoding.{first_bad, has_action_of, make_from, masks, rows_in}
use Rattle.sg_wire.specs.CdbDecoding.{service_action, unless_bad}
use Rattle.sg_wire.specs.Commands as make
use Rattle.sg_wire.specs.BlockCommand.{is_block_command}
use Rattle.sg_wire.specs.Layout.{Layout, ServiceAction, layout, length_of, table}
use Rattle.sg_wire.specs.Layout.ServiceAction.{none, named as one_action}
use Rattle.sg_wire.specs.Profile.{is_in}
use Rattle.sg_wire.specs.SupportedOperations.{usage}
use Rattle.sg_wire.specs.declared.command.Command.{Command}
use Rattle.sg_wire.specs.declared.command.Command.TheVariants as command
use Rattle.sg_wire.specs.declared.command.in_action.InAction.TheVariants.{ReadKeys}
use Rattle.sg_wire.specs.declared.command.out_action.OutAction.TheVariants.{Register}
use Rattle.sg_wire.specs.declared.command.CdbFault.{CdbFault}
use Rattle.sg_wire.specs.declared.command.CdbFault.TheVariants.{Short}
use Rattle.sg_wire.specs.declared.command.entry.Entry.{Entry}
use Rattle.sg_wire.specs.declared.command.entry.Entry.TheVariants as entry
use Rattle.sg_wire.specs.declared.command.table.Row.{Row}
use Rattle.sg_wire.specs.declared.command.Class.{Class}
use Rattle.sg_wire.specs.declared.command.Class.TheVariants.{Always}
use Rattle.sg_wire.specs.declared.command.table.Found.{Found}
use Rattle.sg_wire.specs.declared.command.table.Found.TheVariants.{Row as FoundRow, NoServiceAction, NoOpcode}
use Rattle.sg_wire.specs.declared.command.table.Name.{Name}
use Rattle.sg_wire.specs.declared.command.table.Name.TheVariants as name
use Rattle.sg_wire.specs.declared.profile.Profile.{Profile}
use Rattle.sg_wire.specs.declared.profile.Profile.TheVariants.{Extended}

-- ---- Rows

-- A command of each name. Only the places of its fields matter here, not their values.
abbrev pub command_named : Name → Command
command_named name.TestUnitReady = command.TestUnitReady
command_named name.RequestSense = make.request_sense false 0
command_named name.Inquiry = make.inquiry false 0 0
command_named name.ModeSelect6 = make.mode_select_6 false false 0
command_named name.ModeSelect10 = make.mode_select_10 false false 0
command_named name.ModeSense6 = make.mode_sense_6 false 0 0 0 0
command_named name.ModeSense10 = make.mode_sense_10 false false 0 0 0 0
command_named name.PersistentReserveIn = make.reserve_in ReadKeys 0
command_named name.PersistentReserveOut = make.reserve_out Register 0 0
command_named name.LogSense = make.log_sense 0 0 0 0
command_named name.ReportLuns = make.report_luns 0 0
command_named name.ReportSupportedOperationCodes = make.report_operation_codes false 0 0 0 0
command_named name.ReportSupportedTaskManagementFunctions = make.report_task_management false 0
command_named name.ReportTargetPortGroups = make.report_port_groups 0 0
command_named name.SendDiagnostic = make.send_diagnostic 0 false 0
command_named name.ExtendedCopy = make.extended_copy 0
command_named name.ReceiveCopyOperatingParameters = make.receive_copy_operating_parameters 0
command_named name.CompareAndWrite = make.compare_and_write 0 0
command_named name.FormatUnit = make.format_unit false false
command_named name.OrWrite16 = command.OrWrite16 make.no_blocks_16
command_named name.PreFetch10 = command.PreFetch10 make.no_blocks_10
command_named name.PreFetch16 = command.PreFetch16 make.no_blocks_16
command_named name.Read6 = command.Read6 (0, 1)
command_named name.Read10 = command.Read10 make.no_blocks_10
command_named name.Read12 = command.Read12 make.no_blocks_12
command_named name.Read16 = command.Read16 make.no_blocks_16
command_named name.Write6 = command.Write6 (0, 1)
command_named name.Write10 = command.Write10 make.no_blocks_10
command_named name.Write12 = command.Write12 make.no_blocks_12
command_named name.Write16 = command.Write16 make.no_blocks_16
command_named name.ReadCapacity10 = command.ReadCapacity10
command_named name.ReadCapacity16 = make.read_capacity_16 0
command_named name.ReadDefectData10 = make.read_defect_data_10 false false 0 0
command_named name.ReadDefectData12 = make.read_defect_data_12 false false 0 0 0
command_named name.SanitizeBlockErase = make.sanitizing command.SanitizeBlockErase 0
command_named name.SanitizeCryptographicErase = make.sanitizing command.SanitizeCryptographicErase 0
command_named name.SanitizeExitFailureMode = make.sanitizing command.SanitizeExitFailureMode 0
command_named name.StartStopUnit = make.start_stop_unit 0 0 false false
command_named name.SynchronizeCache10 = command.SynchronizeCache10 make.no_blocks_10
command_named name.SynchronizeCache16 = command.SynchronizeCache16 make.no_blocks_16
command_named name.Verify10 = make.verify_10 0 0 0
command_named name.Verify12 = make.verify_12 0 0 0
command_named name.Verify16 = make.verify_16 0 0 0
command_named name.WriteAndVerify10 = make.write_and_verify_10 0 0 0
command_named name.WriteAndVerify12 = make.write_and_verify_12 0 0 0
command_named name.WriteAndVerify16 = make.write_and_verify_16 0 0 0
command_named name.WriteAtomic16 = make.write_atomic_16 0 0 0
command_named name.WriteLong10 = make.write_long_10 false false 0 0
command_named name.WriteSame10 = make.write_same_10 false false 0 0
command_named name.WriteSame16 = make.write_same_16 false false false 0 0
command_named name.Unmap = make.unmap false 0 0
command_named name.GetLbaStatus = make.get_lba_status 0 0

-- A name of a block command.
abbrev pub names_block_command : Name → Bool
names_block_command named = is_block_command (command_named named)

-- The layout of each name.
abbrev pub layout_of : Name → Layout
layout_of named = layout (command_named named)

-- The service action of a row, if it has one.
abbrev pub action_option : ServiceAction → Option ℕ
action_option none = None
action_option (one_action action) = Some action

-- A row of the code has what the command's layout says.
abbrev pub IsRow : Row → Type 0
IsRow row =
    let l = layout_of row.name in
    (row.profile ≡ l.profile) × (row.opcode ≡ l.opcode) × (row.class ≡ l.class)
    × (row.is_blocked ≡ l.blocked_by_attention) × (row.masks.now ≡ masks l)
    × (row.usage.now ≡ usage l) × (row.service_action ≡ action_option l.action)

-- ---- The rows in the table's order

-- The command of an entry. PERSISTENT RESERVE IN and OUT have an entry for each service action.
abbrev pub command_of_entry : Entry → Command
command_of_entry (entry.Named named) = command_named named
command_of_entry (entry.ReserveIn action) = make.reserve_in action 0
command_of_entry (entry.ReserveOut action) = make.reserve_out action 0 0

abbrev pub entry_layout : Entry → Layout
entry_layout entry = layout (command_of_entry entry)

-- The layouts of some entries.
unfoldable pub layouts_of : List Entry → List Layout
layouts_of entries = map entry_layout entries

-- The entries have each row of the table once, in its order.
unfoldable pub AreEntries : List Entry → Type 0
AreEntries entries = layouts_of entries ≡ table

-- A disk of a profile has the row, and it has the operation code.
abbrev pub is_row : Profile → (opcode : ℕ) → Layout → Bool
is_row profile opcode l = l.opcode == opcode && is_in l.profile profile

-- The layouts that a disk of a profile has of some entries: all, and those of an operation code.
unfoldable pub layouts_in : Profile → List Entry → List Layout
layouts_in profile entries = filter (λ l. is_in l.profile profile) (layouts_of entries)

unfoldable pub layouts_with : Profile → (opcode : ℕ) → List Entry → List Layout
layouts_with profile opcode entries = filter (is_row profile opcode) (layouts_of entries)

-- The length of the descriptor of a command, in bytes.
abbrev pub descriptor_length : (timeouts : Bool) → ℕ
descriptor_length false = 8
descriptor_length true = 20

-- ---- The row of a CDB

-- The CDB has a service action, if there has to be one.
abbrev pub ActionIs : List ℕ → ServiceAction → Type 0
ActionIs cdb none = Unit {0}
ActionIs cdb (one_action action) = service_action cdb ≡ action

-- The CDB has the service action of a command that shares its operation code with others.
-- PERSISTENT RESERVE IN and OUT have a row for each service action, which the name does not tell.
abbrev pub HasAction : List ℕ → Name → Type 0
HasAction cdb name.PersistentReserveIn = Unit {0}
HasAction cdb name.PersistentReserveOut = Unit {0}
HasAction cdb named = ActionIs cdb (layout_of named).action

-- The CDB has the operation code and the service action of a command.
abbrev pub IsNamed : List ℕ → Name → Type 0
IsNamed cdb named =
    (1 ≤ length cdb) × (slice_index cdb 0 ≡ (layout_of named).opcode) × HasAction cdb named

-- On a disk of a profile, no command of an operation code has the service action of the CDB.
unfoldable pub IsNamedByNone : Profile → List ℕ → (opcode : ℕ) → Type 0
IsNamedByNone profile cdb opcode = find (has_action_of cdb) (rows_in profile opcode) ≡ None

-- The table's result for a CDB on a disk of a profile: the row of its command; or a row of its
-- operation code, of which no command has its service action; or no command has its operation code.
abbrev pub IsFound : Profile → List ℕ → Found → Type 0
IsFound profile cdb (FoundRow row) =
    IsNamed cdb row.now.name × IsRow row.now × (is_in row.now.profile profile ≡ true)
IsFound profile cdb (NoServiceAction row) =
    let opcode = (layout_of row.now.name).opcode in
    (1 ≤ length cdb) × (slice_index cdb 0 ≡ opcode) × IsRow row.now
    × (is_in row.now.profile profile ≡ true) × IsNamedByNone profile cdb opcode
IsFound profile cdb NoOpcode = 1 ≤ length cdb → rows_in profile (slice_index cdb 0) ≡ []

-- The reservation class in the table, and whether a pending unit attention blocks the CDB.
abbrev pub class_of_name : List ℕ → Name → Class
class_of_name cdb named = class_by_row cdb (layout_of named)

-- Only the row of START STOP UNIT does not have the class of each of its CDBs.
abbrev pub is_start_stop : Name → Bool
is_start_stop name.StartStopUnit = true
is_start_stop named = false

abbrev pub class_found : List ℕ → Found → Option Class
class_found cdb (FoundRow row) = Some (class_of_name cdb row.now.name)
class_found cdb (NoServiceAction row) = Some Always
class_found cdb NoOpcode = None

abbrev pub blocked_found : Found → Bool
blocked_found (FoundRow row) = row.now.is_blocked
blocked_found (NoServiceAction row) = row.now.is_blocked
blocked_found NoOpcode = true

-- ---- Decoding by a row

-- A CDB is as long as its masks and has no bit outside them.
unfoldable pub fits_masks : List ℕ → List ℕ → Result Unit CdbFault
fits_masks masks cdb =
    if nat_lt (length cdb) (length masks)
    then Err (Short (length cdb))
    else unless_bad (first_bad 0 masks cdb) tt

-- The command of a CDB by one layout, on a disk of a profile.
abbrev pub command_by_in : Profile → Layout → List ℕ → Result Command CdbFault
command_by_in profile l cdb =
    if nat_lt (length cdb) (length_of l.opcode) then Err (Short (length cdb))
    else command_by_row profile cdb (Some l)

abbrev pub command_by : Layout → List ℕ → Result Command CdbFault
command_by l cdb = command_by_in Extended l cdb

-- The command of a CDB by all layouts that a disk of a profile has of an operation code.
unfoldable pub command_with : Profile → (opcode : ℕ) → List ℕ → Result Command CdbFault
command_with profile opcode cdb = command_by_rows profile cdb (rows_in profile opcode)

-- The command of a CDB by its name, on a disk of a profile. The service action decides about
-- PERSISTENT RESERVE IN and OUT. Only OUT has a service action, and only WRITE SAME(16) has a field, that
-- depends on the profile.
abbrev pub command_of_name : Profile → Name → List ℕ → Result Command CdbFault
command_of_name profile name.PersistentReserveIn cdb = command_with Extended 0x5E cdb
command_of_name profile name.PersistentReserveOut cdb = command_with profile 0x5F cdb
command_of_name profile name.WriteSame16 cdb =
    command_by_in profile (layout_of name.WriteSame16) cdb
command_of_name profile named cdb = command_by (layout_of named) cdb

-- The command of a CDB that fits the masks of its layout, and the fault of one that does not.
abbrev pub IsDecodedIn : Profile → List ℕ → Name → Type 0
IsDecodedIn profile cdb named =
    let l = layout_of named in
    command_by_in profile l cdb ≡ Ok (make_from cdb l.fields l.make)

abbrev pub IsDecoded : List ℕ → Name → Type 0
IsDecoded cdb named = IsDecodedIn Extended cdb named

abbrev pub IsRefusedIn : Profile → List ℕ → Name → CdbFault → Type 0
IsRefusedIn profile cdb named fault = command_by_in profile (layout_of named) cdb ≡ Err fault

abbrev pub IsRefused : List ℕ → Name → CdbFault → Type 0
IsRefused cdb named fault = IsRefusedIn Extended cdb named fault
