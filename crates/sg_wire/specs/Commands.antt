-- Each command that has fields, made of their values in the order of specs/Layout.antt.
use Rattle.std.specs.Prelude.{ℕ, Bool}
use Rattle.sg_wire.specs.declared.command.Command.{Command}
use Rattle.sg_wire.specs.declared.command.Command.TheVariants as command
use Rattle.sg_wire.specs.declared.command.block.Extent10.{Extent10}
use Rattle.sg_wire.specs.declared.command.block.Extent12.{Extent12}
use Rattle.sg_wire.specs.declared.command.block.Extent16.{Extent16}
use Rattle.sg_wire.specs.declared.command.format.Sanitize.{Sanitize}
use Rattle.sg_wire.specs.declared.command.in_action.InAction.{InAction}
use Rattle.sg_wire.specs.declared.command.mode.PageRequest.{PageRequest}
use Rattle.sg_wire.specs.declared.command.out_action.OutAction.{OutAction}
use Rattle.sg_wire.specs.ByteCheck.{byte_check_of}
use Rattle.sg_wire.specs.PageControl.{page_control_of}

-- ---- Primary commands (SPC-4, 6)

abbrev pub request_sense : (desc : Bool) (allocation_length : ℕ) → Command
request_sense desc n = command.RequestSense (record { desc = desc; allocation_length = n })

abbrev pub inquiry : (evpd : Bool) (page_code allocation_length : ℕ) → Command
inquiry evpd page n =
    command.Inquiry (record { evpd = evpd; page_code = page; allocation_length = n })

abbrev pub mode_select_6 : (pf sp : Bool) (list_length : ℕ) → Command
mode_select_6 pf sp n = command.ModeSelect6 (record { pf = pf; sp = sp; list_length = n })

abbrev pub mode_select_10 : (pf sp : Bool) (list_length : ℕ) → Command
mode_select_10 pf sp n = command.ModeSelect10 (record { pf = pf; sp = sp; list_length = n })

-- The pages that a MODE SENSE requests.
abbrev pub page_request : (dbd : Bool) (pc page subpage : ℕ) → PageRequest
page_request dbd pc page subpage = record {
  dbd = dbd;
  page_control = page_control_of pc;
  page_code = page;
  subpage_code = subpage;
}

abbrev pub mode_sense_6 : (dbd : Bool) (pc page subpage allocation_length : ℕ) → Command
mode_sense_6 dbd pc page subpage n = command.ModeSense6 (record {
  page = page_request dbd pc page subpage;
  allocation_length = n;
})

abbrev pub mode_sense_10 : (llbaa dbd : Bool) (pc page subpage allocation_length : ℕ) → Command
mode_sense_10 llbaa dbd pc page subpage n = command.ModeSense10 (record {
  llbaa = llbaa;
  page = page_request dbd pc page subpage;
  allocation_length = n;
})

abbrev pub reserve_in : InAction → (allocation_length : ℕ) → Command
reserve_in action n =
    command.PersistentReserveIn (record { action = action; allocation_length = n })

abbrev pub reserve_out : OutAction → (scope_type list_length : ℕ) → Command
reserve_out action scope_type n = command.PersistentReserveOut (record {
  action = action;
  scope_type = scope_type;
  list_length = n;
})

abbrev pub log_sense : (page subpage pointer allocation_length : ℕ) → Command
log_sense page subpage pointer n = command.LogSense (record {
  page_code = page;
  subpage_code = subpage;
  parameter_pointer = pointer;
  allocation_length = n;
})

abbrev pub report_luns : (select allocation_length : ℕ) → Command
report_luns select n = command.ReportLuns (record { select = select; allocation_length = n })

abbrev pub report_operation_codes : (timeouts : Bool) (options opcode action allocation_length : ℕ)
    → Command
report_operation_codes timeouts options opcode action n =
    command.ReportSupportedOperationCodes (record {
      timeouts = timeouts;
      options = options;
      opcode = opcode;
      action = action;
      allocation_length = n;
    })

abbrev pub report_task_management : (timeouts : Bool) (allocation_length : ℕ) → Command
report_task_management timeouts n = command.ReportSupportedTaskManagementFunctions (record {
  timeouts = timeouts;
  allocation_length = n;
})

abbrev pub report_port_groups : (format allocation_length : ℕ) → Command
report_port_groups format n =
    command.ReportTargetPortGroups (record { format = format; allocation_length = n })

abbrev pub send_diagnostic : (code : ℕ) (self_test : Bool) (list_length : ℕ) → Command
send_diagnostic code self_test n =
    command.SendDiagnostic (record { code = code; self_test = self_test; list_length = n })

abbrev pub extended_copy : (list_length : ℕ) → Command
extended_copy n = command.ExtendedCopy (record { list_length = n })

abbrev pub receive_copy_operating_parameters : (allocation_length : ℕ) → Command
receive_copy_operating_parameters n =
    command.ReceiveCopyOperatingParameters (record { allocation_length = n })

-- ---- Block commands (SBC-3, 5)

abbrev pub start_stop_unit : (power_condition_modifier power_condition : ℕ) (loej start : Bool) → Command
start_stop_unit modifier condition loej start = command.StartStopUnit (record {
  power_condition_modifier = modifier;
  power_condition = condition;
  loej = loej;
  start = start;
})

-- A command that names a range of blocks and nothing else, in CDBs of 10, 12 and 16 bytes.
abbrev pub naming_10 : (Extent10 → Command) → (lba count : ℕ) → Command
naming_10 command lba n = command (record { lba = lba; count = n })

abbrev pub naming_12 : (Extent12 → Command) → (lba count : ℕ) → Command
naming_12 command lba n = command (record { lba = lba; count = n })

abbrev pub naming_16 : (Extent16 → Command) → (lba count : ℕ) → Command
naming_16 command lba n = command (record { lba = lba; count = n })

abbrev pub no_blocks_10 : Extent10
no_blocks_10 = record { lba = 0; count = 0 }

abbrev pub no_blocks_12 : Extent12
no_blocks_12 = record { lba = 0; count = 0 }

abbrev pub no_blocks_16 : Extent16
no_blocks_16 = record { lba = 0; count = 0 }

abbrev pub compare_and_write : (lba count : ℕ) → Command
compare_and_write lba n = command.CompareAndWrite (record { lba = lba; count = n })

abbrev pub format_unit : (long_list format_data : Bool) → Command
format_unit long_list format_data =
    command.FormatUnit (record { long_list = long_list; format_data = format_data })

-- A service action of SANITIZE.
abbrev pub sanitizing : (Sanitize → Command) → (list_length : ℕ) → Command
sanitizing command n = command (record { list_length = n })

abbrev pub read_capacity_16 : (allocation_length : ℕ) → Command
read_capacity_16 n = command.ReadCapacity16 (record { allocation_length = n })

abbrev pub read_defect_data_10 : (plist glist : Bool) (format allocation_length : ℕ) → Command
read_defect_data_10 plist glist format n = command.ReadDefectData10 (record {
  plist = plist;
  glist = glist;
  format = format;
  allocation_length = n;
})

abbrev pub read_defect_data_12 : (plist glist : Bool) (format index allocation_length : ℕ) → Command
read_defect_data_12 plist glist format index n = command.ReadDefectData12 (record {
  plist = plist;
  glist = glist;
  format = format;
  index = index;
  allocation_length = n;
})

abbrev pub verify_10 : (byte_check lba count : ℕ) → Command
verify_10 check lba n = command.Verify10 (record {
  byte_check = byte_check_of check;
  extent = record { lba = lba; count = n };
})

abbrev pub verify_12 : (byte_check lba count : ℕ) → Command
verify_12 check lba n = command.Verify12 (record {
  byte_check = byte_check_of check;
  extent = record { lba = lba; count = n };
})

abbrev pub verify_16 : (byte_check lba count : ℕ) → Command
verify_16 check lba n = command.Verify16 (record {
  byte_check = byte_check_of check;
  extent = record { lba = lba; count = n };
})

abbrev pub write_and_verify_10 : (byte_check lba count : ℕ) → Command
write_and_verify_10 check lba n = command.WriteAndVerify10 (record {
  byte_check = byte_check_of check;
  extent = record { lba = lba; count = n };
})

abbrev pub write_and_verify_12 : (byte_check lba count : ℕ) → Command
write_and_verify_12 check lba n = command.WriteAndVerify12 (record {
  byte_check = byte_check_of check;
  extent = record { lba = lba; count = n };
})

abbrev pub write_and_verify_16 : (byte_check lba count : ℕ) → Command
write_and_verify_16 check lba n = command.WriteAndVerify16 (record {
  byte_check = byte_check_of check;
  extent = record { lba = lba; count = n };
})

abbrev pub write_atomic_16 : (lba boundary count : ℕ) → Command
write_atomic_16 lba boundary n =
    command.WriteAtomic16 (record { lba = lba; boundary = boundary; count = n })

abbrev pub write_long_10 : (cor_dis wr_uncor : Bool) (lba length : ℕ) → Command
write_long_10 cor_dis wr_uncor lba n =
    command.WriteLong10 (record { cor_dis = cor_dis; wr_uncor = wr_uncor; lba = lba; length = n })

abbrev pub write_same_10 : (anchor unmap : Bool) (lba count : ℕ) → Command
write_same_10 anchor unmap lba n =
    command.WriteSame10 (record { lba = lba; count = n; anchor = anchor; unmap = unmap })

abbrev pub write_same_16 : (anchor unmap ndob : Bool) (lba count : ℕ) → Command
write_same_16 anchor unmap ndob lba n = command.WriteSame16 (record {
  lba = lba;
  count = n;
  anchor = anchor;
  unmap = unmap;
  ndob = ndob;
})

abbrev pub unmap : (anchor : Bool) (group list_length : ℕ) → Command
unmap anchor group n =
    command.Unmap (record { anchor = anchor; group = group; list_length = n })

abbrev pub get_lba_status : (start allocation_length : ℕ) → Command
get_lba_status start n = command.GetLbaStatus (record { start = start; allocation_length = n })
