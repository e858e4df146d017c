-- The entries of answers, each kind by its own header.
use Rattle.std.specs.Prelude.{ℕ, List, [], ◌∷◌, length, drop, filter, codes, slice_index}
use Rattle.std.specs.Prelude.{Bool, ◌+◌, nat_le, ◌==◌, if◌then◌else◌}
use Rattle.byteorder.specs.Endian.{big_number}
use Rattle.sg_wire.specs.Bits.{bits_of, has_bit}
use Rattle.sg_wire.specs.LbaStatus.{status_descriptor_length}
use Rattle.sg_decode.specs.Lines.{Line, part, line_end}
use Rattle.sg_decode.specs.Items.{Entry}
use Rattle.sg_decode.specs.declared.value.Value.TheVariants.{Bits, Code, Number, Address}
use Rattle.sg_decode.specs.declared.value.Value.TheVariants.{Digits}
use Rattle.sg_decode.specs.declared.value.Value.TheVariants.{TextFrom, HexFrom, ProvisioningStatus}
use Rattle.sg_decode.specs.declared.entry.EntryKind.{EntryKind}
use Rattle.sg_decode.specs.declared.entry.EntryKind.TheVariants.{SupportedPages, Designators}
use Rattle.sg_decode.specs.declared.entry.EntryKind.TheVariants.{ModePages, ReservationKeys}
use Rattle.sg_decode.specs.declared.entry.EntryKind.TheVariants.{LbaStatusDescriptors}
use Rattle.sg_decode.specs.declared.entry.EntryKind.TheVariants.{FullStatusDescriptors}
use Rattle.sg_decode.specs.declared.entry.EntryKind.TheVariants.{ExtendedFullStatusDescriptors}
use Rattle.sg_decode.specs.declared.entry.EntryKind.TheVariants.{Luns, CommandDescriptors, Timeouts}
use Rattle.sg_decode.specs.declared.entry.EntryKind.TheVariants.{LogPages, LogSubpages}
use Rattle.sg_decode.specs.declared.entry.EntryKind.TheVariants.{LogParameters, LogExceptions}
use Rattle.sg_decode.specs.declared.entry.EntryKind.TheVariants.{LogResourceCounts}
use Rattle.sg_decode.specs.declared.entry.EntryKind.TheVariants.{ModePagePolicies, ScsiPorts}
use Rattle.sg_decode.specs.declared.entry.EntryKind.TheVariants.{LongDefects, ShortDefects}

-- An entry of a fixed size, in one line.
abbrev fixed_entry : (size : ℕ) → Line → Entry
fixed_entry size line = record {
  header = λ bytes. size;
  following = λ bytes. 0;
  lines = λ own. line ∷ [];
}

-- ---- Designation descriptors (SPC-4, 7.8.6.1)

-- CODE SET 2h is ASCII.
abbrev pub is_ascii : (own : List ℕ) → Bool
is_ascii own = bits_of (slice_index own 0) 3 0 == 2

abbrev pub designator_line : (own : List ℕ) → Line
designator_line own =
    part (codes "  designator: code set ") (Bits 0 3 0)
    ∷ part (codes ", association ") (Bits 1 5 4)
    ∷ part (codes ", type ") (Bits 1 3 0)
    ∷ part (codes ", length ") (Number 3 1)
    ∷ (if is_ascii own
    then part (codes "\n    ") (TextFrom 4)
    else part (codes "\n    hex: ") (HexFrom 4))
    ∷ []

-- ---- Mode pages (SPC-4, 7.5)

-- SPF: the page has a subpage code, and two bytes of length.
abbrev pub has_subpage : (page : List ℕ) → Bool
has_subpage page = has_bit (slice_index page 0) 0x40

abbrev pub page_line : (page : List ℕ) → Line
page_line page =
    if has_subpage page
    then part (codes "  page ") (Code 0 5 0)
    ∷ part (codes "/") (Code 1 7 0)
    ∷ part (codes ", PS ") (Bits 0 7 7)
    ∷ part (codes ": ") (HexFrom 4)
    ∷ []
    else part (codes "  page ") (Code 0 5 0)
    ∷ part (codes ", PS ") (Bits 0 7 7)
    ∷ part (codes ": ") (HexFrom 2)
    ∷ []

-- Read-write error recovery (SBC-3, 6.4).
abbrev error_recovery : Line
error_recovery =
    part (codes "    AWRE: ") (Bits 2 7 7)
    ∷ part (codes ", ARRE: ") (Bits 2 6 6)
    ∷ part (codes ", read retries: ") (Number 3 1)
    ∷ part (codes ", write retries: ") (Number 8 1)
    ∷ []

-- Caching (SBC-3, 6.4).
abbrev caching : Line
caching = part (codes "    WCE: ") (Bits 2 2 2) ∷ part (codes ", RCD: ") (Bits 2 0 0) ∷ []

-- Control (SPC-4, 7.5).
abbrev control : Line
control = part (codes "    D_SENSE: ") (Bits 2 2 2) ∷ part (codes ", SWP: ") (Bits 4 3 3) ∷ []

-- Informational exceptions control (SPC-4, 7.5).
abbrev informational_exceptions : Line
informational_exceptions = part (codes "    DEXCPT: ") (Bits 2 3 3) ∷ []

-- The line of some fields of a page, by its page code.
abbrev pub parameter_lines : (code : ℕ) → List Line
parameter_lines code =
    if code == 0x01 then error_recovery ∷ []
    else (if code == 0x08 then caching ∷ []
    else (if code == 0x0A then control ∷ []
    else (if code == 0x1C then informational_exceptions ∷ []
    else [])))

-- The line is shown for a page that has no subpage code and has all of the line's fields.
abbrev pub fits_in : (page : List ℕ) → Line → Bool
fits_in page line = nat_le (line_end line) (length page)

abbrev pub shown_parameters : (page : List ℕ) → List Line
shown_parameters page =
    if has_subpage page
    then []
    else filter (fits_in page) (parameter_lines (bits_of (slice_index page 0) 5 0))

-- ---- Commands (SPC-4, 6.35)

-- A command timeouts descriptor, of twelve bytes, and its line from a byte on (SPC-4, 6.35.4).
abbrev pub timeouts_length : ℕ
timeouts_length = 12

abbrev timeouts : (first : ℕ) → Line
timeouts first =
    part (codes "    command specific: ") (Number (first + 3) 1)
    ∷ part (codes ", nominal timeout: ") (Number (first + 4) 4)
    ∷ part (codes ", recommended timeout: ") (Number (first + 8) 4)
    ∷ []

-- SERVACTV and CTDP of a command descriptor (SPC-4, 6.35.2).
abbrev pub has_action : (own : List ℕ) → Bool
has_action own = has_bit (slice_index own 5) 0x01

abbrev pub has_timeouts : (own : List ℕ) → Bool
has_timeouts own = has_bit (slice_index own 5) 0x02

abbrev pub command_line : (own : List ℕ) → Line
command_line own =
    if has_action own
    then part (codes "  opcode: ") (Code 0 7 0)
    ∷ part (codes ", service action: ") (Digits 2 2)
    ∷ part (codes ", CDB length: ") (Number 6 2)
    ∷ []
    else part (codes "  opcode: ") (Code 0 7 0) ∷ part (codes ", CDB length: ") (Number 6 2) ∷ []

-- The timeouts of a command follow its eight bytes.
abbrev pub command_timeouts : (own : List ℕ) → List Line
command_timeouts own = if has_timeouts own then filter (fits_in own) (timeouts 8 ∷ []) else []

-- ---- Log parameters (SPC-4, 7.3.2)

abbrev log_parameter : Line
log_parameter =
    part (codes "  parameter ") (Digits 0 2)
    ∷ part (codes ", control ") (Code 2 7 0)
    ∷ part (codes ": ") (HexFrom 4)
    ∷ []

-- Informational Exceptions, and the most recent temperature (SPC-4, 7.3).
abbrev log_exception : Line
log_exception =
    part (codes "    exception: ") (Code 4 7 0)
    ∷ part (codes "/") (Code 5 7 0)
    ∷ part (codes ", temperature: ") (Number 6 1)
    ∷ []

-- Logical Block Provisioning: a resource count, and its scope (SBC-3, log parameters).
abbrev log_resource_count : Line
log_resource_count =
    part (codes "    resource count: ") (Number 4 4) ∷ part (codes ", scope: ") (Bits 8 1 0) ∷ []

-- A parameter of a page whose parameters have a line of fields. It is shown if all of its fields are
-- there.
abbrev pub parameter_entry : List Line → Entry
parameter_entry fields = record {
  header = λ bytes. 4;
  following = λ bytes. slice_index bytes 3;
  lines = λ own. log_parameter ∷ filter (fits_in own) fields;
}

-- ---- The other kinds

-- A page code of the page Supported VPD Pages (SPC-4, 7.8).
abbrev supported_page : Line
supported_page = part (codes "  supported: ") (Code 0 7 0) ∷ []

-- An LBA status descriptor (SBC-3, 5.4.2.2).
abbrev lba_status_descriptor : Line
lba_status_descriptor =
    part (codes "  ") (Address 0)
    ∷ part (codes " ") (Number 8 4)
    ∷ part (codes " ") (ProvisioningStatus 12)
    ∷ []

-- A reservation key of READ KEYS (SPC-4, 6.15.2).
abbrev reservation_key : Line
reservation_key = part (codes "  key: ") (Address 0) ∷ []

-- A full status descriptor of READ FULL STATUS, with its TransportID (SPC-4, 6.15.5). ALL_TG_PT is
-- shown only by a script on an extended disk.
abbrev from_holder : Line
from_holder =
    part (codes ", holder: ") (Bits 12 0 0)
    ∷ part (codes ", scope: ") (Bits 13 7 4)
    ∷ part (codes ", type: ") (Bits 13 3 0)
    ∷ part (codes ", port: ") (Number 18 2)
    ∷ part (codes ", transport: ") (HexFrom 24)
    ∷ []

abbrev full_status_descriptor : Line
full_status_descriptor = part (codes "  key: ") (Address 0) ∷ from_holder

abbrev extended_full_status_descriptor : Line
extended_full_status_descriptor =
    part (codes "  key: ") (Address 0) ∷ part (codes ", all target ports: ") (Bits 12 1 1) ∷ from_holder

-- A full status descriptor in a line.
abbrev full_status_entry : Line → Entry
full_status_entry line = record {
  header = λ bytes. 24;
  following = λ bytes. big_number 4 (drop 20 bytes);
  lines = λ own. line ∷ [];
}

-- A logical unit number of REPORT LUNS (SPC-4, 6.33).
abbrev lun : Line
lun = part (codes "  LUN: ") (Address 0) ∷ []

-- A supported page descriptor of Supported Log Pages, and one that has a subpage code, too (SPC-4, 7.3).
abbrev log_page : Line
log_page = part (codes "  supported: ") (Code 0 5 0) ∷ []

abbrev log_subpage : Line
log_subpage = part (codes "  supported: ") (Code 0 5 0) ∷ part (codes "/") (Code 1 7 0) ∷ []

-- A mode page policy descriptor (SPC-4, 7.8).
abbrev mode_page_policy : Line
mode_page_policy =
    part (codes "  page ") (Code 0 5 0)
    ∷ part (codes "/") (Code 1 7 0)
    ∷ part (codes ", MLUS: ") (Bits 2 7 7)
    ∷ part (codes ", policy: ") (Bits 2 1 0)
    ∷ []

-- A SCSI port designation descriptor (SPC-4, 7.8): its port, and its names in hexadecimal.
abbrev scsi_port : Line
scsi_port =
    part (codes "  port: ") (Number 2 2)
    ∷ part (codes ", TransportID length: ") (Number 6 2)
    ∷ part (codes "\n    hex: ") (HexFrom 8)
    ∷ []

-- The length of its initiator port TransportID. After the TransportID come two reserved bytes, the
-- length of the target port descriptors, and these. If the length is not there, none is counted.
abbrev pub transport_id_length : (port : List ℕ) → ℕ
transport_id_length port = big_number 2 (drop 6 port)

abbrev pub target_ports_length : (port : List ℕ) → ℕ
target_ports_length port =
    if nat_le (12 + transport_id_length port) (length port)
    then big_number 2 (drop (10 + transport_id_length port) port)
    else 0

-- An address descriptor of READ DEFECT DATA (SBC-3, 5.3.2).
abbrev short_defect : Line
short_defect = part (codes "  defect: ") (Digits 0 4) ∷ []

abbrev long_defect : Line
long_defect = part (codes "  defect: ") (Address 0) ∷ []

-- ---- All kinds

abbrev pub entry_of : EntryKind → Entry
entry_of SupportedPages = fixed_entry 1 supported_page
entry_of Designators = record {
  header = λ bytes. 4;
  following = λ bytes. slice_index bytes 3;
  lines = λ own. designator_line own ∷ [];
}
entry_of ModePages = record {
  header = λ page. if has_subpage page then 4 else 2;
  following = λ page. if has_subpage page then big_number 2 (drop 2 page) else slice_index page 1;
  lines = λ page. page_line page ∷ shown_parameters page;
}
entry_of LbaStatusDescriptors = fixed_entry status_descriptor_length lba_status_descriptor
entry_of ReservationKeys = fixed_entry 8 reservation_key
entry_of FullStatusDescriptors = full_status_entry full_status_descriptor
entry_of ExtendedFullStatusDescriptors = full_status_entry extended_full_status_descriptor
entry_of Luns = fixed_entry 8 lun
entry_of CommandDescriptors = record {
  header = λ bytes. 8;
  following = λ bytes. if has_timeouts bytes then timeouts_length else 0;
  lines = λ own. command_line own ∷ command_timeouts own;
}
entry_of Timeouts = fixed_entry timeouts_length (timeouts 0)
entry_of LogPages = fixed_entry 1 log_page
entry_of LogSubpages = fixed_entry 2 log_subpage
entry_of LogParameters = parameter_entry []
entry_of LogExceptions = parameter_entry (log_exception ∷ [])
entry_of LogResourceCounts = parameter_entry (log_resource_count ∷ [])
entry_of ModePagePolicies = fixed_entry 4 mode_page_policy
entry_of ScsiPorts = record {
  header = λ bytes. 8;
  following = λ bytes. transport_id_length bytes + 4 + target_ports_length bytes;
  lines = λ own. scsi_port ∷ [];
}
entry_of ShortDefects = fixed_entry 4 short_defect
entry_of LongDefects = fixed_entry 8 long_defect
