-- The requests that the options of a tool make (their manual pages in sg3_utils, with the choices
-- of docs/DECISIONS.md). Of two faults, the first in this order is returned: `Usage` of clap, or of
-- a list that is not given; `Exclusive`; `Number`; any other `Usage`.
use Rattle.std.specs.Prelude.{ℕ, ◌^◌, ◌-◌, List, [], ◌∷◌, length, codes, filter, map, Option, Some}
use Rattle.std.specs.Prelude.{None, is_some, Result, Ok, Err, Bool, true, false, ◌==◌, ◌&&◌, ◌||◌, not}
use Rattle.std.specs.Prelude.{nat_le, option_and_then, if◌then◌else◌}
use Rattle.clap.specs.Words.{Row, Text}
use Rattle.sg_tools.specs.Options.{command_line}
use Rattle.sg_tools.specs.GivenOptions.{is_set, given_options, text_of}
use Rattle.sg_tools.specs.OptionTexts.{reservation_key, reservation_type, numbers_up_to, mode_page}
use Rattle.sg_tools.specs.OptionTexts.{number_or, value_or, vpd_page}
use Rattle.sg_tools.specs.DataOutOptions.{block_or_nothing, byte_check_or, data_or, excludes}
use Rattle.sg_tools.specs.DataOutOptions.{filled_block, given_bytes, has_data, has_two_sources}
use Rattle.sg_tools.specs.DataOutOptions.{is_none_given, short_extent, write_same}
use Rattle.sg_tools.specs.Number.{number_up_to}
use Rattle.sg_tools.specs.StartOptions.{has_two_actions, start_or_stop}
use Rattle.sg_wire.specs.OutList.{list_length}
use Rattle.sg_wire.specs.PageControl.{page_control_with}
use Rattle.sg_wire.specs.UnmapList.{maximum_unmap_descriptors, unmap_list_length}
use Rattle.sg_wire.specs.declared.extent.Extent.{Extent}
use Rattle.sg_wire.specs.declared.out_list.OutList.{OutList}
use Rattle.sg_tools.specs.declared.parameters.Parameters.{Parameters}
use Rattle.sg_tools.specs.declared.parameters.Parameters.TheVariants as parameters
use Rattle.sg_tools.specs.declared.service_action.ServiceAction.{ServiceAction}
use Rattle.sg_tools.specs.declared.service_action.ServiceAction.TheVariants.{In, Out}
use Rattle.sg_tools.specs.declared.show.Show.{Show}
use Rattle.sg_tools.specs.declared.show.Show.TheVariants as show
use Rattle.sg_tools.specs.declared.tool.Tool.{Tool}
use Rattle.sg_tools.specs.declared.tool_fault.ToolFault.{ToolFault}
use Rattle.sg_tools.specs.declared.tool_fault.ToolFault.TheVariants.{Usage, Number, Exclusive}
use Rattle.sg_tools.specs.declared.tool_name.ToolName.{ToolName}
use Rattle.sg_tools.specs.declared.tool_name.ToolName.TheVariants.{SgInq, SgVpd, SgModes, SgUnmap}
use Rattle.sg_tools.specs.declared.tool_name.ToolName.TheVariants.{SgGetLbaStatus, SgPersist}
use Rattle.sg_tools.specs.declared.tool_name.ToolName.TheVariants.{SgTurs, SgRequests, SgLuns}
use Rattle.sg_tools.specs.declared.tool_name.ToolName.TheVariants.{SgOpcodes, SgLogs, SgReadcap, SgSync}
use Rattle.sg_tools.specs.declared.tool_name.ToolName.TheVariants.{SgVerify, SgCompareAndWrite, SgWriteSame}
use Rattle.sg_tools.specs.declared.tool_name.ToolName.TheVariants.{SgStart}
use Rattle.sg_wire.specs.declared.command.Command.{Command}
use Rattle.sg_wire.specs.declared.command.Command.TheVariants.{ModeSense6, ModeSense10}
use Rattle.sg_wire.specs.declared.command.Command.TheVariants.{ReadCapacity10, SynchronizeCache10}
use Rattle.sg_wire.specs.declared.command.Command.TheVariants.{SynchronizeCache16, TestUnitReady}
use Rattle.sg_wire.specs.declared.command.mode.CdbWidth.{CdbWidth}
use Rattle.sg_wire.specs.declared.command.mode.CdbWidth.TheVariants.{Six, Ten}
use Rattle.sg_wire.specs.declared.command.mode.PageRequest.{PageRequest}
use Rattle.sg_wire.specs.declared.command.page_control.PageControl.{PageControl}
use Rattle.sg_wire.specs.Commands as command
use Rattle.sg_wire.specs.declared.command.in_action.InAction.{InAction}
use Rattle.sg_wire.specs.declared.command.in_action.InAction.TheVariants.{ReadKeys, ReadReservation}
use Rattle.sg_wire.specs.declared.command.in_action.InAction.TheVariants.{ReportCapabilities, ReadFullStatus}
use Rattle.sg_wire.specs.declared.command.out_action.OutAction.{OutAction}
use Rattle.sg_wire.specs.declared.command.out_action.OutAction.TheVariants.{Register, Reserve}
use Rattle.sg_wire.specs.declared.command.out_action.OutAction.TheVariants.{Release, Clear, Preempt}
use Rattle.sg_wire.specs.declared.command.out_action.OutAction.TheVariants.{PreemptAndAbort}
use Rattle.sg_wire.specs.declared.command.out_action.OutAction.TheVariants.{RegisterAndIgnoreExistingKey}

-- ---- Requests

-- The command that a tool sends, or why its words ask for nothing.
abbrev pub Request : Type 0
Request = Result Tool ToolFault

abbrev pub sends : Command → Parameters → Show → Request
sends command parameters show =
    Ok (record { command = command; parameters = parameters; show = show })

-- A command without data-out.
abbrev pub asks : Command → Show → Request
asks command show = sends command parameters.Nothing show

abbrev pub unless_exclusive : Bool → Request → Request
unless_exclusive are_exclusive request = if are_exclusive then Err Exclusive else request

-- A request with the value of an option, if its text has one.
abbrev pub with_value : {A : Type 0} → Option A → (A → Request) → Request
with_value None request = Err Number
with_value (Some value) request = request value

-- ---- sg_inq and sg_vpd: INQUIRY

-- If no allocation length or 0 is given, it is 36 bytes for the standard INQUIRY data and 252 for a
-- page.
abbrev pub inquiry_length : (evpd : Bool) → (given : ℕ) → ℕ
inquiry_length evpd given = if given == 0 then (if evpd then 252 else 36) else given

abbrev pub inquiry_show : (evpd hex : Bool) → Show
inquiry_show evpd hex = if hex then show.Hex else (if evpd then show.Vpd else show.Inquiry)

abbrev pub inquiry : (evpd : Bool) (page length : Option ℕ) (hex : Bool) → Request
inquiry evpd page length hex =
    with_value page (λ page. with_value length (λ length.
    asks (command.inquiry evpd page (inquiry_length evpd length)) (inquiry_show evpd hex)))

abbrev pub page_or : (default : ℕ) → Option Text → Option ℕ
page_or default text = value_or default vpd_page text

abbrev pub length_or_0 : Option Text → Option ℕ
length_or_0 text = number_or 0 0xFFFF text

abbrev pub default_page : (id : Bool) → ℕ
default_page id = if id then 0x83 else 0x00

-- --page asks for a page, --id for device identification, and --vpd without them for the supported
-- pages.
abbrev pub sg_inq : List Row → Request
sg_inq rows =
    let page = text_of (codes "page") rows in
    let id = is_set (codes "id") rows in
    let evpd = is_set (codes "vpd") rows || (id || is_some page) in
    unless_exclusive (id && is_some page)
    (inquiry evpd (page_or (default_page id) page) (length_or_0 (text_of (codes "len") rows))
    (is_set (codes "hex") rows))

-- Without --page it asks for the supported pages.
abbrev pub sg_vpd : List Row → Request
sg_vpd rows =
    inquiry true (page_or 0x00 (text_of (codes "page") rows))
    (length_or_0 (text_of (codes "maxlen") rows)) (is_set (codes "hex") rows)

-- ---- sg_modes: MODE SENSE(10), or with --six MODE SENSE(6)

abbrev pub cdb_width : (six : Bool) → CdbWidth
cdb_width six = if six then Six else Ten

abbrev pub mode_sense : CdbWidth → (llbaa : Bool) → PageRequest → Command
mode_sense Six llbaa page = ModeSense6 (record { page = page; allocation_length = 252 })
mode_sense Ten llbaa page =
    ModeSense10 (record { llbaa = llbaa; page = page; allocation_length = 1024 })

abbrev pub modes_show : CdbWidth → (hex : Bool) → Show
modes_show Six hex = if hex then show.Hex else show.Modes6
modes_show Ten hex = if hex then show.Hex else show.Modes10

-- PC is 0 to 3, and without --control 0: the current values.
abbrev pub page_control : (text : Option (List ℕ)) → Option PageControl
page_control text = option_and_then page_control_with (number_or 0 3 text)

-- Without --page it asks for all pages, page 3Fh.
abbrev pub sg_modes : List Row → Request
sg_modes rows =
    let page = text_of (codes "page") rows in
    let six = is_set (codes "six") rows in
    let llbaa = is_set (codes "llbaa") rows in
    unless_exclusive ((is_set (codes "all") rows && is_some page) || (six && llbaa))
    (with_value (page_control (text_of (codes "control") rows)) (λ pc.
    with_value (value_or (0x3F, 0x00) mode_page page) (λ page.
    let request : PageRequest = record {
      dbd = is_set (codes "dbd") rows;
      page_control = pc;
      page_code = page.0;
      subpage_code = page.1;
    } in
    asks (mode_sense (cdb_width six) llbaa request)
    (modes_show (cdb_width six) (is_set (codes "hex") rows)))))

-- ---- sg_unmap: UNMAP

abbrev pub paired : (lbas counts : List ℕ) → List Extent
paired [] counts = []
paired (lba ∷ lbas) [] = []
paired (lba ∷ lbas) (count ∷ counts) = record { lba = lba; count = count } ∷ paired lbas counts

abbrev pub unmap : (anchor : Bool) (group : ℕ) → List Extent → Request
unmap anchor group extents =
    sends (command.unmap anchor group (unmap_list_length (length extents)))
    (parameters.Unmap extents) show.Nothing

abbrev pub unmap_each : (anchor : Bool) (group : ℕ) (lbas counts : List ℕ) → Request
unmap_each anchor group lbas counts =
    if length lbas == length counts && nat_le (length lbas) maximum_unmap_descriptors
    then unmap anchor group (paired lbas counts) else Err Usage

abbrev pub with_both_lists : (lba num : Option Text) → (Text → Text → Request) → Request
with_both_lists None num request = Err Usage
with_both_lists (Some lba) None request = Err Usage
with_both_lists (Some lba) (Some num) request = request lba num

-- Both lists have to be given. They have to have the same length, of at most 64 entries.
abbrev pub sg_unmap : List Row → Request
sg_unmap rows =
    with_both_lists (text_of (codes "lba") rows) (text_of (codes "num") rows) (λ lba num.
    with_value (numbers_up_to (2 ^ 64 - 1) lba) (λ lbas.
    with_value (numbers_up_to (2 ^ 32 - 1) num) (λ counts.
    with_value (number_or 0 31 (text_of (codes "grpnum") rows)) (λ group.
    unmap_each (is_set (codes "anchor") rows) group lbas counts))))

-- ---- sg_get_lba_status: GET LBA STATUS

abbrev pub lba_status_show : (brief hex : Bool) → Show
lba_status_show brief hex =
    if hex then show.Hex else (if brief then show.LbaStatusBrief else show.LbaStatus)

-- An allocation length of 0 is sent as it is given.
abbrev pub sg_get_lba_status : List Row → Request
sg_get_lba_status rows =
    let brief = is_set (codes "brief") rows in
    let hex = is_set (codes "hex") rows in
    unless_exclusive (brief && hex)
    (with_value (number_or 0 (2 ^ 64 - 1) (text_of (codes "lba") rows)) (λ start.
    with_value (number_or 24 (2 ^ 32 - 1) (text_of (codes "maxlen") rows)) (λ length.
    asks (command.get_lba_status start length) (lba_status_show brief hex))))

-- ---- sg_persist: PERSISTENT RESERVE IN and PERSISTENT RESERVE OUT

-- A flag and the service action that it asks for.
pub record ActionFlag : Type 0 where
  pub flag : Text
  pub action : ServiceAction

abbrev action : Text → ServiceAction → ActionFlag
action flag service_action = record { flag = flag; action = service_action }

abbrev pub action_flags : List ActionFlag
action_flags =
    action (codes "read-keys") (In ReadKeys)
    ∷ action (codes "read-reservation") (In ReadReservation)
    ∷ action (codes "report-capabilities") (In ReportCapabilities)
    ∷ action (codes "read-full-status") (In ReadFullStatus)
    ∷ action (codes "register") (Out Register)
    ∷ action (codes "register-ignore") (Out RegisterAndIgnoreExistingKey)
    ∷ action (codes "reserve") (Out Reserve)
    ∷ action (codes "release") (Out Release)
    ∷ action (codes "clear") (Out Clear)
    ∷ action (codes "preempt") (Out Preempt)
    ∷ action (codes "preempt-abort") (Out PreemptAndAbort)
    ∷ []

-- The service actions whose flags are given.
unfoldable pub given_actions : List ActionFlag → List Row → List ServiceAction
given_actions flags rows =
    map (λ (row : ActionFlag). row.action)
    (filter (λ (row : ActionFlag). is_set row.flag rows) flags)

-- A service action excludes a second one, and --in excludes --out. Each of these options excludes
-- the actions of the other.
abbrev pub are_exclusive : (as_in as_out : Bool) → List ServiceAction → Bool
are_exclusive as_in as_out [] = as_in && as_out
are_exclusive as_in as_out (In action ∷ []) = as_out
are_exclusive as_in as_out (Out action ∷ []) = as_in
are_exclusive as_in as_out (first ∷ second ∷ others) = true

abbrev pub reserve_in_show : InAction → Show
reserve_in_show ReadKeys = show.Keys
reserve_in_show ReadReservation = show.Reservation
reserve_in_show ReportCapabilities = show.Capabilities
reserve_in_show ReadFullStatus = show.FullStatus

abbrev pub reserve_in : InAction → Request
reserve_in action = asks (command.reserve_in action 8192) (reserve_in_show action)

-- The SCOPE is a logical unit, 0h.
abbrev pub reserve_out : OutAction → (type : ℕ) → OutList → Request
reserve_out action type list =
    sends (command.reserve_out action type list_length)
    (parameters.ReserveOut list) show.Nothing

-- READ KEYS if neither a service action nor --out is given.
abbrev pub reserve : (as_out : Bool) → List ServiceAction → (type : ℕ) → OutList → Request
reserve as_out [] type list = if as_out then Err Usage else reserve_in ReadKeys
reserve as_out (In action ∷ others) type list = reserve_in action
reserve as_out (Out action ∷ others) type list = reserve_out action type list

abbrev pub key_or_0 : Option Text → Option ℕ
key_or_0 text = value_or 0 reservation_key text

abbrev pub sg_persist : List Row → Request
sg_persist rows =
    let as_out = is_set (codes "out") rows in
    let actions = given_actions action_flags rows in
    unless_exclusive (are_exclusive (is_set (codes "in") rows) as_out actions)
    (with_value (value_or 0 reservation_type (text_of (codes "prout-type") rows)) (λ type.
    with_value (key_or_0 (text_of (codes "param-rk") rows)) (λ key.
    with_value (key_or_0 (text_of (codes "param-sark") rows)) (λ action_key.
    reserve as_out actions type (record {
      reservation_key = key;
      service_action_key = action_key;
      spec_i_pt = false;
      all_tg_pt = false;
      aptpl = is_set (codes "param-aptpl") rows;
      unreg = false;
      port = 0;
      others = [];
    })))))

-- ---- sg_turs and sg_requests: TEST UNIT READY and REQUEST SENSE

abbrev pub sg_turs : Request
sg_turs = asks TestUnitReady show.Nothing

-- An allocation length of 0 is as if none was given.
abbrev pub length_or : (default : ℕ) → (given : ℕ) → ℕ
length_or default given = if given == 0 then default else given

-- The text of an answer, or hex lines with --hex.
abbrev pub text_or_hex : Show → List Row → Show
text_or_hex text rows = if is_set (codes "hex") rows then show.Hex else text

abbrev pub sg_requests : List Row → Request
sg_requests rows =
    with_value (number_or 0 0xFF (text_of (codes "maxlen") rows)) (λ length.
    asks (command.request_sense (is_set (codes "desc") rows) (length_or 252 length))
    (text_or_hex show.Sense rows))

-- ---- sg_luns: REPORT LUNS

abbrev pub sg_luns : List Row → Request
sg_luns rows =
    with_value (number_or 0 0xFF (text_of (codes "select") rows)) (λ select.
    with_value (number_or 0 (2 ^ 32 - 1) (text_of (codes "maxlen") rows)) (λ length.
    asks (command.report_luns select (length_or 8192 length)) (text_or_hex show.Luns rows)))

-- ---- sg_opcodes: REPORT SUPPORTED OPERATION CODES, or with --tmf REPORT SUPPORTED TASK MANAGEMENT
-- FUNCTIONS

-- REPORTING OPTIONS (SPC-4, 6.35): all commands, the command with an operation code, or the one with
-- an operation code and a service action.
abbrev pub reporting_options : (opcode action : Option Text) → ℕ
reporting_options None action = 0
reporting_options (Some opcode) None = 1
reporting_options (Some opcode) (Some action) = 2

-- With REPD the answer has 16 bytes, and without it 4 (SPC-4, 6.36).
abbrev pub task_management : (repd : Bool) → Show → Request
task_management repd shown =
    asks (command.report_task_management repd (if repd then 16 else 4)) shown

abbrev pub operation_codes : (rctd : Bool) (options opcode action : ℕ) → Show → Request
operation_codes rctd options opcode action shown =
    asks (command.report_operation_codes rctd options opcode action 8192) shown

-- The answer is about all commands, or about the one with an operation code.
abbrev pub codes_text : (opcode : Option Text) → Show
codes_text None = show.AllCommands
codes_text (Some opcode) = show.OneCommand

-- --sa needs --opcode, unless --tmf is given. With --tmf, --opcode, --sa and --rctd set nothing, and
-- without it --repd.
abbrev pub sg_opcodes : List Row → Request
sg_opcodes rows =
    let opcode = text_of (codes "opcode") rows in
    let action = text_of (codes "sa") rows in
    with_value (number_or 0 0xFF opcode) (λ code.
    with_value (number_or 0 0xFFFF action) (λ action_code.
    if is_set (codes "tmf") rows
    then task_management (is_set (codes "repd") rows) (text_or_hex show.TaskManagement rows)
    else (if is_some action && not (is_some opcode) then Err Usage
    else operation_codes (is_set (codes "rctd") rows) (reporting_options opcode action) code
    action_code (text_or_hex (codes_text opcode) rows))))

-- ---- sg_logs: LOG SENSE

-- Without --page it asks for the supported pages, page 00h.
abbrev pub sg_logs : List Row → Request
sg_logs rows =
    with_value (value_or (0x00, 0x00) mode_page (text_of (codes "page") rows)) (λ page.
    with_value (number_or 0 0xFFFF (text_of (codes "paramp") rows)) (λ pointer.
    with_value (number_or 0 0xFFFF (text_of (codes "maxlen") rows)) (λ length.
    asks (command.log_sense page.0 page.1 pointer (length_or 65532 length)) (text_or_hex show.LogPage rows))))

-- ---- sg_readcap: READ CAPACITY(10), or with --16 or --long READ CAPACITY(16)

abbrev pub read_capacity : (long : Bool) → Command
read_capacity long = if long then command.read_capacity_16 32 else ReadCapacity10

abbrev pub capacity_text : (long : Bool) → Show
capacity_text long = if long then show.Capacity16 else show.Capacity10

abbrev pub sg_readcap : List Row → Request
sg_readcap rows =
    let long = is_set (codes "16") rows || is_set (codes "long") rows in
    asks (read_capacity long) (text_or_hex (capacity_text long) rows)

-- ---- sg_sync: SYNCHRONIZE CACHE(10), or with --16 SYNCHRONIZE CACHE(16)

-- An address and a count have to fit their fields.
abbrev pub synchronize_10 : (lba count : Option Text) → Request
synchronize_10 lba count =
    with_value (number_or 0 (2 ^ 32 - 1) lba) (λ lba.
    with_value (number_or 0 (2 ^ 16 - 1) count) (λ count.
    asks (command.naming_10 SynchronizeCache10 lba count) show.Nothing))

abbrev pub synchronize_16 : (lba count : Option Text) → Request
synchronize_16 lba count =
    with_value (number_or 0 (2 ^ 64 - 1) lba) (λ lba.
    with_value (number_or 0 (2 ^ 32 - 1) count) (λ count.
    asks (command.naming_16 SynchronizeCache16 lba count) show.Nothing))

abbrev pub sg_sync : List Row → Request
sg_sync rows =
    let lba = text_of (codes "lba") rows in
    let count = text_of (codes "count") rows in
    if is_set (codes "16") rows then synchronize_16 lba count else synchronize_10 lba count

-- ---- sg_verify: VERIFY(10), or with --16 VERIFY(16)

abbrev pub verify_10 : (byte_check : ℕ) → Parameters → (lba count : Option Text) → Request
verify_10 byte_check sent lba count =
    with_value (number_or 0 (2 ^ 32 - 1) lba) (λ lba.
    with_value (number_or 1 (2 ^ 16 - 1) count) (λ count.
    sends (command.verify_10 byte_check lba count) sent show.Nothing))

abbrev pub verify_16 : (byte_check : ℕ) → Parameters → (lba count : Option Text) → Request
verify_16 byte_check sent lba count =
    with_value (number_or 0 (2 ^ 64 - 1) lba) (λ lba.
    with_value (number_or 1 (2 ^ 32 - 1) count) (λ count.
    sends (command.verify_16 byte_check lba count) sent show.Nothing))

abbrev pub verify : (long : Bool) → (byte_check : Option ℕ) → Option Parameters
    → (lba count : Option Text) → Request
verify long byte_check sent lba count =
    with_value byte_check (λ byte_check. with_value sent (λ sent.
    if long then verify_16 byte_check sent lba count else verify_10 byte_check sent lba count))

abbrev pub sg_verify : List Row → Request
sg_verify rows =
    let word = text_of (codes "in") rows in
    let zeros = is_set (codes "0") rows in
    let ones = is_set (codes "ff") rows in
    unless_exclusive (has_two_sources (is_some word) zeros ones)
    (verify (is_set (codes "16") rows)
    (byte_check_or (has_data (is_some word) zeros ones) (text_of (codes "ebytchk") rows))
    (data_or (block_or_nothing zeros ones) word)
    (text_of (codes "lba") rows) (text_of (codes "count") rows))

-- ---- sg_compare_and_write: COMPARE AND WRITE

-- Both have to be given: an address, and the data-out, whose first half is compared with the blocks.
abbrev pub sg_compare_and_write : List Row → Request
sg_compare_and_write rows =
    with_both_lists (text_of (codes "lba") rows) (text_of (codes "in") rows) (λ lba word.
    with_value (number_up_to (2 ^ 64 - 1) lba) (λ lba.
    with_value (number_or 1 0xFF (text_of (codes "num") rows)) (λ count.
    with_value (given_bytes word) (λ sent.
    sends (command.compare_and_write lba count) sent show.Nothing))))

-- ---- sg_write_same: WRITE SAME(10) or WRITE SAME(16)

abbrev pub write_block : (short long anchor unmap ndob : Bool) → (lba count : Option ℕ)
    → Option Parameters → Request
write_block short long anchor unmap ndob lba count sent =
    with_value lba (λ lba. with_value count (λ count. with_value sent (λ sent.
    with_value (write_same short long anchor unmap ndob lba count (short_extent lba count))
    (λ command. sends command sent show.Nothing))))

abbrev pub sg_write_same : List Row → Request
sg_write_same rows =
    let word = text_of (codes "in") rows in
    let lba = text_of (codes "lba") rows in
    let count = text_of (codes "num") rows in
    let short = is_set (codes "10") rows in
    let long = is_set (codes "16") rows in
    let ones = is_set (codes "ff") rows in
    let ndob = is_set (codes "ndob") rows in
    if is_none_given (is_some word) (is_some lba) (is_some count) then Err Usage
    else unless_exclusive (excludes (is_some word) ones ndob short long)
    (write_block short long (is_set (codes "anchor") rows) (is_set (codes "unmap") rows) ndob
    (number_or 0 (2 ^ 64 - 1) lba) (number_or 1 (2 ^ 32 - 1) count)
    (data_or (filled_block ones ndob) word))

-- ---- sg_start: START STOP UNIT

-- --load and --eject set LOEJ, as --loej does. The unit is started, unless it is to be stopped or ejected.
abbrev pub sg_start : List Row → Request
sg_start rows =
    let load = is_set (codes "load") rows in
    let stop = is_set (codes "stop") rows in
    let eject = is_set (codes "eject") rows in
    let loej = load || (eject || is_set (codes "loej") rows) in
    unless_exclusive (has_two_actions (is_set (codes "start") rows) load stop eject)
    (with_value (number_or 0 15 (text_of (codes "mod") rows)) (λ modifier.
    with_value (number_or 0 15 (text_of (codes "pc") rows)) (λ condition.
    asks (start_or_stop modifier condition loej (not (stop || eject))) show.Nothing)))

-- ---- Every tool

abbrev pub request_of : ToolName → List Row → Request
request_of SgInq rows = sg_inq rows
request_of SgVpd rows = sg_vpd rows
request_of SgModes rows = sg_modes rows
request_of SgUnmap rows = sg_unmap rows
request_of SgGetLbaStatus rows = sg_get_lba_status rows
request_of SgPersist rows = sg_persist rows
request_of SgTurs rows = sg_turs
request_of SgRequests rows = sg_requests rows
request_of SgLuns rows = sg_luns rows
request_of SgOpcodes rows = sg_opcodes rows
request_of SgLogs rows = sg_logs rows
request_of SgReadcap rows = sg_readcap rows
request_of SgSync rows = sg_sync rows
request_of SgVerify rows = sg_verify rows
request_of SgCompareAndWrite rows = sg_compare_and_write rows
request_of SgWriteSame rows = sg_write_same rows
request_of SgStart rows = sg_start rows

abbrev pub request_by : ToolName → Result (List Row) ToolFault → Request
request_by tool (Err fault) = Err fault
request_by tool (Ok rows) = request_of tool rows

-- The request that words make to a tool. The first word is the tool's name.
unfoldable pub request : ToolName → (words : List Text) → Request
request tool words = request_by tool (given_options (command_line tool) words)
