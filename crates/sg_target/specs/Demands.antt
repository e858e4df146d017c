-- Each command's demands on its fields and its data-out, and the operation that it asks for. The
-- demands depend on the disk only by its configuration, which never changes.
use Rattle.std.specs.Prelude.{ℕ, ◌+◌, ◌*◌, ◌==◌, length, List, Bool, false, ◌&&◌, not}
use Rattle.std.specs.Prelude.{Option, Some, None, Result, Ok, Err, nat_le, nat_lt, if◌then◌else◌, ok_or, []}
use Rattle.std.specs.Option.{option_map_or}
use Rattle.sg_wire.specs.CdbDecoding.{command_in}
use Rattle.sg_wire.specs.declared.command.CdbFault.{CdbFault}
use Rattle.sg_wire.specs.declared.command.Command.{Command}
use Rattle.sg_wire.specs.declared.command.Command.TheVariants as command
use Rattle.sg_wire.specs.Profile.{rules_of}
use Rattle.sg_wire.specs.declared.command.copy.ExtendedCopy.{ExtendedCopy}
use Rattle.sg_wire.specs.declared.command.block.WriteAtomic16.{WriteAtomic16}
use Rattle.sg_wire.specs.declared.command.block.WriteLong10.{WriteLong10}
use Rattle.sg_wire.specs.declared.command.diagnostic.LogSense.{LogSense}
use Rattle.sg_wire.specs.declared.command.diagnostic.SendDiagnostic.{SendDiagnostic}
use Rattle.sg_wire.specs.declared.command.format.FormatUnit.{FormatUnit}
use Rattle.sg_wire.specs.declared.command.start_stop.StartStopUnit.{StartStopUnit}
use Rattle.sg_wire.specs.declared.command.mode.CdbWidth.{CdbWidth}
use Rattle.sg_wire.specs.declared.command.mode.CdbWidth.TheVariants.{Six, Ten}
use Rattle.sg_wire.specs.declared.command.mode.PageRequest.{PageRequest}
use Rattle.sg_wire.specs.declared.command.primary.Inquiry.{Inquiry}
use Rattle.sg_wire.specs.declared.command.provisioning.Unmap.{Unmap}
use Rattle.sg_wire.specs.SupportedOperations.{requested_report}
use Rattle.sg_wire.specs.declared.command.report.ReportLuns.{ReportLuns}
use Rattle.sg_wire.specs.declared.command.report.ReportSupportedOperationCodes.{ReportSupportedOperationCodes}
use Rattle.sg_wire.specs.declared.command.report.ReportTargetPortGroups.{ReportTargetPortGroups}
use Rattle.sg_wire.specs.declared.profile.Profile.{Profile}
use Rattle.sg_wire.specs.declared.command.reservation.PersistentReserveOut.{PersistentReserveOut}
use Rattle.sg_wire.specs.declared.command.verify.CompareAndWrite.{CompareAndWrite}
use Rattle.sg_wire.specs.declared.command.verify.ByteCheck.{ByteCheck}
use Rattle.sg_wire.specs.declared.command.verify.ByteCheck.TheVariants.{DataOut, Nothing, OneBlock, Reserved}
use Rattle.sg_wire.specs.FirstBytes.{first_bytes}
use Rattle.sg_wire.specs.declared.extent.Extent.{Extent}
use Rattle.sg_target.specs.BlockCommands.{BlocksOutFields, blocks_out, bytes_of, exchange_out}
use Rattle.sg_pages.specs.BlockDescriptor.{logical_block_length}
use Rattle.sg_pages.specs.Reports.{extended_header_asked, lists_unit, log_page_with}
use Rattle.sg_pages.specs.declared.reports.Report.{Report}
use Rattle.sg_pages.specs.declared.reports.Report.TheVariants as report
use Rattle.sg_target.specs.Config.{ConfigFields, limits_for}
use Rattle.sg_target.specs.CopyRequest.{copy_asked, list_asked}
use Rattle.sg_target.specs.DataOut.{DataOutNeed, blocks_need, moved, need}
use Rattle.sg_target.specs.FormatList.{header_length, header_refusal}
use Rattle.sg_target.specs.ModeCommands.{bad_page_format}
use Rattle.sg_target.specs.PrimaryCommands.{format_of, inquiry_page}
use Rattle.sg_target.specs.ProvisioningCommands.{block_out, listed_extents, same_block, unmaps}
use Rattle.sg_target.specs.Refusal.{or_refused, unless_refused, when_sound}
use Rattle.sg_target.specs.ReservationCommands.{fields_out, bad_type}
use Rattle.sg_target.specs.declared.operation.Operation.{Operation}
use Rattle.sg_target.specs.declared.operation.Operation.TheVariants as operation
use Rattle.sg_target.specs.declared.refusal.Reason.TheVariants.{InvalidFieldInCdb}
use Rattle.sg_target.specs.declared.refusal.Refusal.{Refusal}
use Rattle.sg_target.specs.declared.refusal.Refusal.TheVariants.{CheckCondition}

-- One row.
pub record Demands : Type 0 where
  -- the byte of the first field whose value the disk does not support
  pub unsupported : Option ℕ
  -- the data-out that the command needs, if it takes any
  pub data_out : Option DataOutNeed
  -- the operation that it asks for, or what is wrong with the page or the parameter list that it
  -- names
  pub operation : Result Operation Refusal

-- A command without data-out.
abbrev pub takes_no_data : (unsupported : Option ℕ) → Result Operation Refusal → Demands
takes_no_data unsupported operation =
    record { unsupported = unsupported; data_out = None; operation = operation }

abbrev pub takes : ConfigFields → (bytes : ℕ) → (unsupported : Option ℕ) → Result Operation Refusal
    → Demands
takes config bytes unsupported operation =
    record { unsupported = unsupported; data_out = Some (need config bytes); operation = operation }

-- The demands of a command whose values are all supported.
abbrev pub asks : Operation → Demands
asks operation = takes_no_data None (Ok operation)

-- ---- Primary commands (SPC-4, 6)

-- INQUIRY asks for a page that the disk has: PAGE CODE is byte 2.
abbrev pub inquiry : ConfigFields → Inquiry → Demands
inquiry config c =
    let page = inquiry_page config.identity.profile c.evpd c.page_code in
    takes_no_data None
    (when_sound (ok_or page (CheckCondition (InvalidFieldInCdb 2)))
    (λ page. operation.ReturnInquiry page c.allocation_length))

-- REPORT LUNS lists the units that SELECT REPORT, byte 2, asks for.
abbrev pub report_luns : ReportLuns → Demands
report_luns c =
    takes_no_data None
    (when_sound (ok_or (lists_unit c.select) (CheckCondition (InvalidFieldInCdb 2)))
    (λ listed. operation.ReturnLuns listed c.allocation_length))

-- A command that returns a report of the disk about itself.
abbrev pub reports : (unsupported : Option ℕ) → Report → (allocation_length : ℕ) → Demands
reports unsupported report n = takes_no_data unsupported (Ok (operation.ReturnReport report n))

-- REPORT SUPPORTED OPERATION CODES has REPORTING OPTIONS, in byte 2, that fit the operation code.
abbrev pub report_operation_codes : Profile → ReportSupportedOperationCodes → Demands
report_operation_codes profile c =
    takes_no_data None
    (when_sound (ok_or (requested_report profile c) (CheckCondition (InvalidFieldInCdb 2)))
    (λ requested. operation.ReturnReport (report.Commands requested) c.allocation_length))

-- REPORT SUPPORTED TASK MANAGEMENT FUNCTIONS has an allocation length of at least 4, from byte 6 on
-- (SPC-4, 6.36).
abbrev pub short_allocation : (allocation_length : ℕ) → Option ℕ
short_allocation n = if nat_lt n 4 then Some 6 else None

-- REPORT TARGET PORT GROUPS has a PARAMETER DATA FORMAT, in byte 1, that is not reserved (SPC-4, 6.37).
abbrev pub report_port_groups : ReportTargetPortGroups → Demands
report_port_groups c =
    takes_no_data None
    (when_sound (ok_or (extended_header_asked c.format) (CheckCondition (InvalidFieldInCdb 1)))
    (λ header. operation.ReturnReport (report.TargetPortGroups header) c.allocation_length))

-- LOG SENSE asks for a page that the disk has, with its parameters from one on.
abbrev pub log_sense : LogSense → Demands
log_sense c =
    takes_no_data None
    (when_sound
    (or_refused (λ byte. CheckCondition (InvalidFieldInCdb byte))
    (log_page_with c.page_code c.subpage_code c.parameter_pointer))
    (λ page. operation.ReturnReport (report.Log page c.parameter_pointer) c.allocation_length))

-- SEND DIAGNOSTIC runs the default self-test or none, and takes no parameter list: SELF-TEST CODE is in
-- byte 1, and PARAMETER LIST LENGTH begins at byte 3. The self-test passes.
-- Choice (SPC-4, 6.42): a list may be refused for its page.
abbrev pub bad_self_test : SendDiagnostic → Option ℕ
bad_self_test c =
    if c.code == 0 then (if c.list_length == 0 then None else Some 3) else Some 1

-- EXTENDED COPY takes its parameter list, and copies the blocks of the segment descriptor if there is one.
abbrev pub extended_copy : ConfigFields → ExtendedCopy → (data_out : List ℕ) → Demands
extended_copy config c data_out =
    takes config c.list_length None
    (when_sound (list_asked config (first_bytes c.list_length data_out)) copy_asked)

abbrev pub mode_select : ConfigFields → CdbWidth → (pf sp : Bool) (list_length : ℕ)
    (data_out : List ℕ) → Demands
mode_select config width pf sp n data_out =
    takes config n (bad_page_format (rules_of config.identity.profile) pf n)
    (Ok (operation.ChangeModes width sp (first_bytes n data_out)))

-- MODE SENSE asks for pages of the disk.
abbrev pub mode_sense : ConfigFields → CdbWidth → (llbaa : Bool) → PageRequest → (allocation_length : ℕ)
    → Operation
mode_sense config width llbaa page n =
    operation.ReturnModes (record {
      width = width;
      llbaa = llbaa;
      page = page;
      blocks = config.blocks;
      profile = config.identity.profile;
    }) n

abbrev pub reserve_out : ConfigFields → PersistentReserveOut → (data_out : List ℕ) → Demands
reserve_out config c data_out =
    let rules = rules_of config.identity.profile in
    takes config c.list_length (bad_type rules c.action c.scope_type)
    (when_sound (fields_out rules c.action (first_bytes c.list_length data_out))
    (operation.ChangeReservations c.action c.scope_type))

-- ---- Block commands (SBC-3, 5)

abbrev pub extent : (lba count : ℕ) → Extent
extent lba count = record { lba = lba; count = count }

-- READ and WRITE move no more blocks than the page Block Limits says; the byte is where TRANSFER
-- LENGTH begins.
abbrev pub too_long : ConfigFields → (transfer_length byte : ℕ) → Option ℕ
too_long config transfer_length byte =
    if nat_lt (limits_for config).transfer_length transfer_length then Some byte else None

abbrev pub read : Extent → (unsupported : Option ℕ) → Demands
read extent unsupported = takes_no_data unsupported (Ok (operation.Read extent))

-- A WRITE, an ORWRITE or a VERIFY takes the bytes of its blocks.
abbrev pub takes_blocks : ConfigFields → Extent → (unsupported : Option ℕ)
    → (BlocksOutFields → Operation) → (data_out : List ℕ) → Demands
takes_blocks config extent unsupported asked data_out = record {
  unsupported = unsupported;
  data_out = Some (blocks_need config extent);
  operation = Ok (asked (blocks_out (moved config extent data_out) data_out));
}

abbrev pub write : ConfigFields → Extent → (unsupported : Option ℕ) → (data_out : List ℕ) → Demands
write config extent unsupported data_out =
    takes_blocks config extent unsupported operation.Write data_out

-- WRITE ATOMIC writes all of its blocks or none, so it always needs all of their bytes. It writes no more
-- blocks than the page Block Limits says for it: TRANSFER LENGTH begins at byte 12. ATOMIC BOUNDARY, from
-- byte 10 on, is 0, because no blocks are divided at a boundary.
-- Choice (SBC-4, WRITE ATOMIC): ATOMIC BOUNDARY may be supported.
abbrev pub bad_atomic : ConfigFields → (boundary count : ℕ) → Option ℕ
bad_atomic config boundary count =
    if boundary == 0
    then (if nat_lt (limits_for config).atomic_transfer_length count then Some 12 else None)
    else Some 10

abbrev pub write_atomic : ConfigFields → WriteAtomic16 → (data_out : List ℕ) → Demands
write_atomic config c data_out =
    let extent = extent c.lba c.count in
    takes config (bytes_of extent) (bad_atomic config c.boundary c.count)
    (Ok (operation.Write (blocks_out extent data_out)))

-- ORWRITE takes the bytes of its blocks, as WRITE does.
abbrev pub or_write : ConfigFields → Extent → (unsupported : Option ℕ) → (data_out : List ℕ)
    → Demands
or_write config extent unsupported data_out =
    takes_blocks config extent unsupported operation.OrWrite data_out

-- WRITE AND VERIFY compares its blocks with their own data-out, or with nothing, so the verification
-- passes: BYTCHK, in byte 1, asks for no other comparison.
abbrev pub bad_comparison : ByteCheck → (otherwise : Option ℕ) → Option ℕ
bad_comparison Nothing otherwise = otherwise
bad_comparison DataOut otherwise = otherwise
bad_comparison Reserved otherwise = Some 1
bad_comparison OneBlock otherwise = Some 1

abbrev pub write_and_verify : ConfigFields → ByteCheck → Extent → (byte : ℕ) → (data_out : List ℕ)
    → Demands
write_and_verify config check extent byte data_out =
    write config extent (bad_comparison check (too_long config extent.count byte)) data_out

-- VERIFY compares its blocks with data-out, block by block, or with one block of data-out, or with
-- nothing. BYTCHK, in byte 1, asks for no other comparison. Without a block there is nothing to compare.
-- Choice (SBC-3, 5.29): a VERIFY that moves no block may name more blocks.
abbrev pub verify_only : ConfigFields → Extent → (byte : ℕ) → Demands
verify_only config extent byte =
    takes_no_data (too_long config extent.count byte) (Ok (operation.Verify extent))

abbrev pub verify_each : ConfigFields → Extent → (byte : ℕ) → (data_out : List ℕ) → Demands
verify_each config extent byte data_out =
    if extent.count == 0 then verify_only config extent byte
    else takes config logical_block_length (too_long config extent.count byte)
    (Ok (operation.CompareEach extent (block_out data_out)))

abbrev pub verify : ConfigFields → ByteCheck → Extent → (byte : ℕ) → (data_out : List ℕ) → Demands
verify config Nothing extent byte data_out = verify_only config extent byte
verify config DataOut extent byte data_out =
    takes_blocks config extent (too_long config extent.count byte) operation.Compare data_out
verify config Reserved extent byte data_out = takes_no_data (Some 1) (Ok (operation.Verify extent))
verify config OneBlock extent byte data_out = verify_each config extent byte data_out

-- COMPARE AND WRITE takes the blocks to compare, then as many to write, and no other number of bytes.
-- The byte is where NUMBER OF LOGICAL BLOCKS is.
abbrev pub exchange_need : Extent → DataOutNeed
exchange_need extent = record {
  bytes = 2 * bytes_of extent;
  if_short = Some (CheckCondition (InvalidFieldInCdb 13));
}

-- Choice (SBC-3, 5.2): data-out of another length may be answered otherwise.
abbrev pub wrong_length : Extent → (data_out : List ℕ) → Option ℕ
wrong_length extent data_out =
    if length data_out == (exchange_need extent).bytes then None else Some 13

abbrev pub compare_and_write : CompareAndWrite → (data_out : List ℕ) → Demands
compare_and_write c data_out = let extent = extent c.lba c.count in record {
  unsupported = wrong_length extent data_out;
  data_out = Some (exchange_need extent);
  operation = Ok (operation.CompareAndWrite (exchange_out extent data_out));
}

-- FORMAT UNIT takes the header of a parameter list with FMTDATA, and no data-out without it.
abbrev pub format_need : ConfigFields → FormatUnit → Option DataOutNeed
format_need config c =
    if c.format_data then Some (need config (header_length c.long_list)) else None

abbrev pub list_refusal : FormatUnit → (data_out : List ℕ) → Option Refusal
list_refusal c data_out =
    if c.format_data
    then header_refusal c.long_list (first_bytes (header_length c.long_list) data_out)
    else None

-- It unmaps all blocks.
-- Choice (SBC-3, 5.3): mode pages, registrations and reservation may change, too.
abbrev pub format_unit : ConfigFields → FormatUnit → (data_out : List ℕ) → Demands
format_unit config c data_out = record {
  unsupported = None;
  data_out = format_need config c;
  operation = unless_refused (list_refusal c data_out) (Ok (operation.UnmapAll config.blocks));
}

-- SANITIZE takes no parameter list: PARAMETER LIST LENGTH begins at byte 7. BLOCK ERASE and
-- CRYPTOGRAPHIC ERASE unmap all blocks. EXIT FAILURE MODE has nothing to do, because none of them fails.
abbrev pub bad_list_length : (list_length : ℕ) → Option ℕ
bad_list_length n = if n == 0 then None else Some 7

abbrev pub sanitize : (list_length : ℕ) → Operation → Demands
sanitize n operation = takes_no_data (bad_list_length n) (Ok operation)

-- A count of 0 reaches to the last block, if the profile says so: then the first block is looked up,
-- as those after it are on the disk if it is.
abbrev pub reached : ConfigFields → (lba count : ℕ) → Extent
reached config lba count =
    if (rules_of config.identity.profile).zero_reaches_last && count == 0 then extent lba 1
    else extent lba count

-- READ DEFECT DATA: the lists that are asked for, and their format, as in the CDB. Formats 6 and 7 are
-- not supported; the byte is where DEFECT LIST FORMAT is.
abbrev pub defect_lists : (plist glist : Bool) (format : ℕ) → ℕ
defect_lists plist glist format =
    (if plist then 0x10 else 0) + ((if glist then 0x08 else 0) + format)

-- Choice (SBC-3, 5.17): for a format that is not supported, the lists may have another format.
abbrev pub bad_defect_format : (format byte : ℕ) → Option ℕ
bad_defect_format format byte = if nat_lt format 6 then None else Some byte

-- START STOP UNIT starts or stops the unit, which has no power conditions and no medium to load or eject:
-- POWER CONDITION MODIFIER is in byte 3, POWER CONDITION and LOEJ are in byte 4.
-- Choice (SBC-3, 5.25): a disk whose medium is not removable may ignore LOEJ.
abbrev pub bad_power : StartStopUnit → Option ℕ
bad_power c =
    if c.power_condition_modifier == 0
    then (if c.power_condition == 0 && not c.loej then None else Some 4)
    else Some 3

-- WRITE LONG only marks a block, with no data: WR_UNCOR, in byte 1, is 1. BYTE TRANSFER LENGTH does not
-- matter then.
-- Choice (SBC-3, 5.41): without WR_UNCOR a block may be written with its error correction bytes.
abbrev pub bad_marking : (wr_uncor : Bool) → Option ℕ
bad_marking wr_uncor = if wr_uncor then None else Some 1

abbrev pub write_long : WriteLong10 → Demands
write_long c =
    takes_no_data (bad_marking c.wr_uncor) (Ok (operation.MarkBad c.lba c.cor_dis))

-- Without UNMAP no block is anchored: ANCHOR, in byte 1, is not supported then.
abbrev pub bad_anchor : (anchor unmap : Bool) → (otherwise : Option ℕ) → Option ℕ
bad_anchor anchor unmap otherwise = if anchor && not unmap then Some 1 else otherwise

-- WRITE SAME writes at least one block, and no more than the page Block Limits says; the byte is
-- where NUMBER OF LOGICAL BLOCKS begins.
abbrev pub bad_count : ConfigFields → (count byte : ℕ) → (otherwise : Option ℕ) → Option ℕ
bad_count config count byte otherwise =
    if nat_le 1 count && nat_le count (limits_for config).write_same_length
    then otherwise else Some byte

-- WRITE SAME takes one block, or with NDOB no data-out.
abbrev pub same_length : (ndob : Bool) → ℕ
same_length ndob = if ndob then 0 else logical_block_length

-- An extended disk takes no other number of bytes. NDOB is in byte 1.
-- Choice (SBC-3, 5.43): data-out of another length may be answered otherwise.
abbrev pub bad_length : ConfigFields → (needed : ℕ) → (data_out : List ℕ) → Option ℕ
bad_length config needed data_out =
    if (rules_of config.identity.profile).write_same_takes_exact_length
    && not (length data_out == needed)
    then Some 1 else None

-- It replaces each of its blocks by that block, or unmaps or anchors them.
abbrev pub unmap_extent : (anchor : Bool) → Extent → Operation
unmap_extent anchor extent =
    if anchor then operation.AnchorExtent extent else operation.UnmapExtent extent

abbrev pub unmap_or_fill : (anchor unmap : Bool) → Extent → (block : List ℕ) → Operation
unmap_or_fill anchor unmap extent block =
    if unmaps unmap block then unmap_extent anchor extent else operation.Fill extent block

abbrev pub bad_same : ConfigFields → (anchor unmap ndob : Bool) → (count byte : ℕ)
    → (data_out : List ℕ) → Option ℕ
bad_same config anchor unmap ndob count byte data_out =
    bad_anchor anchor unmap
    (bad_count config count byte (bad_length config (same_length ndob) data_out))

abbrev pub write_same : ConfigFields → (anchor unmap ndob : Bool) → Extent → (byte : ℕ)
    → (data_out : List ℕ) → Demands
write_same config anchor unmap ndob extent byte data_out =
    takes config (same_length ndob) (bad_same config anchor unmap ndob extent.count byte data_out)
    (Ok (unmap_or_fill anchor unmap extent (same_block ndob data_out)))

-- UNMAP takes a list of extents, which it unmaps or anchors. The profile says whether an extent of no
-- block counts.
abbrev pub unmap_extents : (anchor : Bool) → List Extent → Operation
unmap_extents anchor extents =
    if anchor then operation.Anchor extents else operation.Unmap extents

abbrev pub extents_out : ConfigFields → (list_length : ℕ) → (data_out : List ℕ)
    → Result (List Extent) Refusal
extents_out config n data_out =
    listed_extents (rules_of config.identity.profile) (first_bytes n data_out)

abbrev pub unmap : ConfigFields → Unmap → (data_out : List ℕ) → Demands
unmap config c data_out =
    takes config c.list_length None
    (when_sound (extents_out config c.list_length data_out) (unmap_extents c.anchor))

-- ---- The row of each command, on a disk of a configuration, with its data-out

-- READ(6) and WRITE(6) name at most 256 blocks by their layout. The CDB of MODE SENSE(6) has no
-- LLBAA.
abbrev pub demands : ConfigFields → Command → (data_out : List ℕ) → Demands
demands config command.TestUnitReady data_out = asks operation.TestReady
demands config (command.RequestSense c) data_out =
    asks (operation.ReturnSense (format_of c.desc) c.allocation_length)
demands config (command.Inquiry c) data_out = inquiry config c
demands config (command.ModeSelect6 c) data_out = mode_select config Six c.pf c.sp c.list_length data_out
demands config (command.ModeSelect10 c) data_out = mode_select config Ten c.pf c.sp c.list_length data_out
demands config (command.ModeSense6 c) data_out =
    asks (mode_sense config Six false c.page c.allocation_length)
demands config (command.ModeSense10 c) data_out =
    asks (mode_sense config Ten c.llbaa c.page c.allocation_length)
demands config (command.LogSense c) data_out = log_sense c
demands config (command.ReportLuns c) data_out = report_luns c
demands config (command.ReportSupportedOperationCodes c) data_out =
    report_operation_codes config.identity.profile c
demands config (command.ReportSupportedTaskManagementFunctions c) data_out =
    reports (short_allocation c.allocation_length) (report.TaskManagementFunctions c.timeouts)
    c.allocation_length
demands config (command.ReportTargetPortGroups c) data_out = report_port_groups c
demands config (command.SendDiagnostic c) data_out =
    takes_no_data (bad_self_test c) (Ok operation.Nothing)
demands config (command.ExtendedCopy c) data_out = extended_copy config c data_out
demands config (command.ReceiveCopyOperatingParameters c) data_out =
    reports None report.CopyParameters c.allocation_length
demands config (command.CompareAndWrite c) data_out = compare_and_write c data_out
demands config (command.FormatUnit c) data_out = format_unit config c data_out
demands config (command.OrWrite16 c) data_out =
    or_write config (extent c.lba c.count) (too_long config c.count 10) data_out
demands config (command.PreFetch10 c) data_out =
    asks (operation.PreFetch (reached config c.lba c.count))
demands config (command.PreFetch16 c) data_out =
    asks (operation.PreFetch (reached config c.lba c.count))
demands config (command.Read6 short) data_out = read (extent short.0 short.1) None
demands config (command.Read10 c) data_out = read (extent c.lba c.count) (too_long config c.count 7)
demands config (command.Read12 c) data_out = read (extent c.lba c.count) (too_long config c.count 6)
demands config (command.Read16 c) data_out = read (extent c.lba c.count) (too_long config c.count 10)
demands config (command.Write6 short) data_out = write config (extent short.0 short.1) None data_out
demands config (command.Write10 c) data_out =
    write config (extent c.lba c.count) (too_long config c.count 7) data_out
demands config (command.Write12 c) data_out =
    write config (extent c.lba c.count) (too_long config c.count 6) data_out
demands config (command.Write16 c) data_out =
    write config (extent c.lba c.count) (too_long config c.count 10) data_out
demands config command.ReadCapacity10 data_out = asks operation.ReturnCapacity10
demands config (command.ReadCapacity16 c) data_out =
    asks (operation.ReturnCapacity16 c.allocation_length)
demands config (command.ReadDefectData10 c) data_out =
    reports (bad_defect_format c.format 2)
    (report.DefectLists10 (defect_lists c.plist c.glist c.format)) c.allocation_length
demands config (command.ReadDefectData12 c) data_out =
    reports (bad_defect_format c.format 1)
    (report.DefectLists12 (defect_lists c.plist c.glist c.format)) c.allocation_length
demands config (command.SanitizeBlockErase c) data_out =
    sanitize c.list_length (operation.UnmapAll config.blocks)
demands config (command.SanitizeCryptographicErase c) data_out =
    sanitize c.list_length (operation.UnmapAll config.blocks)
demands config (command.SanitizeExitFailureMode c) data_out = sanitize c.list_length operation.Nothing
demands config (command.StartStopUnit c) data_out =
    takes_no_data (bad_power c) (Ok (operation.StartStop c.start))
demands config (command.SynchronizeCache10 c) data_out =
    asks (operation.Synchronize (reached config c.lba c.count))
demands config (command.SynchronizeCache16 c) data_out =
    asks (operation.Synchronize (reached config c.lba c.count))
demands config (command.Verify10 c) data_out =
    verify config c.byte_check (extent c.extent.lba c.extent.count) 7 data_out
demands config (command.Verify12 c) data_out =
    verify config c.byte_check (extent c.extent.lba c.extent.count) 6 data_out
demands config (command.Verify16 c) data_out =
    verify config c.byte_check (extent c.extent.lba c.extent.count) 10 data_out
demands config (command.WriteAndVerify10 c) data_out =
    write_and_verify config c.byte_check (extent c.extent.lba c.extent.count) 7 data_out
demands config (command.WriteAndVerify12 c) data_out =
    write_and_verify config c.byte_check (extent c.extent.lba c.extent.count) 6 data_out
demands config (command.WriteAndVerify16 c) data_out =
    write_and_verify config c.byte_check (extent c.extent.lba c.extent.count) 10 data_out
demands config (command.WriteAtomic16 c) data_out = write_atomic config c data_out
demands config (command.WriteLong10 c) data_out = write_long c
demands config (command.WriteSame10 c) data_out =
    write_same config c.anchor c.unmap false (extent c.lba c.count) 7 data_out
demands config (command.WriteSame16 c) data_out =
    write_same config c.anchor c.unmap c.ndob (extent c.lba c.count) 10 data_out
demands config (command.Unmap c) data_out = unmap config c data_out
demands config (command.GetLbaStatus c) data_out =
    asks (operation.ReturnLbaStatus c.start c.allocation_length)
demands config (command.PersistentReserveIn c) data_out =
    asks (operation.ReturnReservations c.action c.allocation_length)
demands config (command.PersistentReserveOut c) data_out = reserve_out config c data_out

-- ---- How much data-out a command takes

abbrev pub needed_by : Demands → ℕ
needed_by d = option_map_or (λ (need : DataOutNeed). need.bytes) d.data_out 0

-- The bytes of data-out that a command needs do not depend on data-out, which is empty here.
abbrev pub needed_bytes : ConfigFields → Command → ℕ
needed_bytes config command = needed_by (demands config command [])

-- The bytes of data-out that a CDB asks for, executed or refused. A CDB that is no command of the disk
-- asks for none.
abbrev pub asked_bytes : ConfigFields → Result Command CdbFault → ℕ
asked_bytes config (Ok command) = needed_bytes config command
asked_bytes config (Err fault) = 0

abbrev pub data_out_length : ConfigFields → (cdb : List ℕ) → ℕ
data_out_length config cdb = asked_bytes config (command_in config.identity.profile cdb)
