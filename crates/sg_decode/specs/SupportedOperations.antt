-- The texts of REPORT SUPPORTED OPERATION CODES (SPC-4, 6.35) and of REPORT SUPPORTED TASK MANAGEMENT
-- FUNCTIONS (SPC-4, 6.36).
use Rattle.std.specs.Prelude.{ℕ, ◌+◌, ◌==◌, List, [], ◌∷◌, ◌++◌, drop, codes, slice_index}
use Rattle.std.specs.Prelude.{if◌then◌else◌}
use Rattle.byteorder.specs.Endian.{big_number}
use Rattle.sg_wire.specs.Bits.{has_bit}
use Rattle.sg_decode.specs.Lines.{Line, part, line_text}
use Rattle.sg_decode.specs.Items.{Decoder, Item, item, line_items, entries_from}
use Rattle.sg_decode.specs.Entries.{entry_of, timeouts_length}
use Rattle.sg_decode.specs.declared.entry.EntryKind.TheVariants.{CommandDescriptors, Timeouts}
use Rattle.sg_decode.specs.declared.value.Value.TheVariants.{Bits, HexFrom, Number}

-- ---- All commands (SPC-4, 6.35.2)

abbrev pub command_data_length : List Line
command_data_length = (part (codes "  command data length: ") (Number 0 4) ∷ []) ∷ []

abbrev pub all_commands : Decoder
all_commands = record {
  header = line_items command_data_length;
  reported_end = λ bytes. 4 + big_number 4 bytes;
  body = λ bytes end. entries_from (entry_of CommandDescriptors) 4 bytes;
}

-- ---- One command (SPC-4, 6.35.3)

abbrev pub command_support : List Line
command_support =
    (part (codes "  support: ") (Bits 1 2 0) ∷ part (codes ", CTDP: ") (Bits 1 7 7) ∷ [])
    ∷ (part (codes "  CDB size: ") (Number 2 2) ∷ [])
    ∷ []

abbrev pub cdb_size : List ℕ → ℕ
cdb_size bytes = big_number 2 (drop 2 bytes)

-- CDB USAGE DATA, if there is some.
abbrev pub usage_line : Line
usage_line = part (codes "  CDB usage: ") (HexFrom 0) ∷ []

abbrev pub usage_items : (size : ℕ) → List Item
usage_items size = if size == 0 then [] else item 4 (4 + size) (line_text usage_line) ∷ []

-- CTDP: timeouts follow.
abbrev pub one_command_end : List ℕ → ℕ
one_command_end bytes =
    4 + cdb_size bytes + (if has_bit (slice_index bytes 1) 0x80 then timeouts_length else 0)

abbrev pub one_command_body : (size : ℕ) → List ℕ → List Item
one_command_body size bytes = usage_items size ++ entries_from (entry_of Timeouts) (4 + size) bytes

abbrev pub one_command : Decoder
one_command = record {
  header = line_items command_support;
  reported_end = one_command_end;
  body = λ bytes end. one_command_body (cdb_size bytes) bytes;
}

-- ---- Task management functions (SPC-4, 6.36)

abbrev functions : Line
functions =
    part (codes "  ATS: ") (Bits 0 7 7)
    ∷ part (codes ", ATSS: ") (Bits 0 6 6)
    ∷ part (codes ", CACAS: ") (Bits 0 5 5)
    ∷ part (codes ", CTSS: ") (Bits 0 4 4)
    ∷ part (codes ", LURS: ") (Bits 0 3 3)
    ∷ part (codes ", QTS: ") (Bits 0 2 2)
    ∷ []

abbrev more_functions : Line
more_functions =
    part (codes "  QAES: ") (Bits 1 2 2)
    ∷ part (codes ", QTSS: ") (Bits 1 1 1)
    ∷ part (codes ", ITNRS: ") (Bits 1 0 0)
    ∷ []

abbrev pub function_lines : List Line
function_lines =
    functions ∷ more_functions ∷ (part (codes "  additional length: ") (Number 3 1) ∷ []) ∷ []

-- With REPD: which functions have which timeout.
abbrev functions_with_timeout : Line
functions_with_timeout =
    part (codes "  ATTS: ") (Bits 6 7 7)
    ∷ part (codes ", ATSTS: ") (Bits 6 6 6)
    ∷ part (codes ", CACATS: ") (Bits 6 5 5)
    ∷ part (codes ", CTSTS: ") (Bits 6 4 4)
    ∷ part (codes ", LURTS: ") (Bits 6 3 3)
    ∷ part (codes ", QTTS: ") (Bits 6 2 2)
    ∷ []

abbrev more_functions_with_timeout : Line
more_functions_with_timeout =
    part (codes "  QAETS: ") (Bits 7 2 2)
    ∷ part (codes ", QTSTS: ") (Bits 7 1 1)
    ∷ part (codes ", ITNRTS: ") (Bits 7 0 0)
    ∷ []

abbrev pub timeout_lines : List Line
timeout_lines =
    (part (codes "  TMFTMOV: ") (Bits 4 0 0) ∷ [])
    ∷ functions_with_timeout
    ∷ more_functions_with_timeout
    ∷ (part (codes "  long timeout: ") (Number 8 4) ∷ [])
    ∷ (part (codes "  short timeout: ") (Number 12 4) ∷ [])
    ∷ []

abbrev pub task_management : Decoder
task_management = record {
  header = line_items function_lines;
  reported_end = λ bytes. 4 + slice_index bytes 3;
  body = λ bytes end. line_items timeout_lines;
}
