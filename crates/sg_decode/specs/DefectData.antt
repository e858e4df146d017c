-- The texts of READ DEFECT DATA parameter data (SBC-3, 5.17 and 5.18).
use Rattle.std.specs.Prelude.{ℕ, ◌+◌, ◌==◌, List, [], ◌∷◌, drop, codes, slice_index, nat_lt}
use Rattle.std.specs.Prelude.{if◌then◌else◌}
use Rattle.byteorder.specs.Endian.{big_number}
use Rattle.sg_wire.specs.Bits.{bits_of}
use Rattle.sg_decode.specs.HexText.{hex_lines}
use Rattle.sg_decode.specs.Lines.{Line, part}
use Rattle.sg_decode.specs.Items.{Decoder, Item, line_items, as_present, entries_from}
use Rattle.sg_decode.specs.Entries.{entry_of}
use Rattle.sg_decode.specs.declared.entry.EntryKind.TheVariants.{LongDefects, ShortDefects}
use Rattle.sg_decode.specs.declared.value.Value.TheVariants.{Bits, Number}

abbrev list_flags : Line
list_flags =
    part (codes "  PLISTV: ") (Bits 1 4 4)
    ∷ part (codes ", GLISTV: ") (Bits 1 3 3)
    ∷ part (codes ", defect list format: ") (Bits 1 2 0)
    ∷ []

-- The header of READ DEFECT DATA(10), of four bytes.
abbrev pub defect_header_10 : List Line
defect_header_10 = list_flags ∷ (part (codes "  defect list length: ") (Number 2 2) ∷ []) ∷ []

-- The header of READ DEFECT DATA(12), of eight bytes.
abbrev pub defect_header_12 : List Line
defect_header_12 =
    list_flags
    ∷ (part (codes "  generation code: ") (Number 2 2) ∷ [])
    ∷ (part (codes "  defect list length: ") (Number 4 4) ∷ [])
    ∷ []

abbrev pub list_format : List ℕ → ℕ
list_format bytes = bits_of (slice_index bytes 1) 2 0

-- The address descriptors, by DEFECT LIST FORMAT: short blocks are 000b. The formats 001b to 101b have eight
-- bytes each, and the others are not known.
abbrev pub defect_body : (first format : ℕ) → (bytes : List ℕ) → (end : ℕ) → List Item
defect_body first format bytes end =
    if format == 0 then entries_from (entry_of ShortDefects) first bytes
    else (if nat_lt format 6 then entries_from (entry_of LongDefects) first bytes
    else as_present first end hex_lines bytes)

abbrev pub defects_10 : Decoder
defects_10 = record {
  header = line_items defect_header_10;
  reported_end = λ bytes. 4 + big_number 2 (drop 2 bytes);
  body = λ bytes end. defect_body 4 (list_format bytes) bytes end;
}

abbrev pub defects_12 : Decoder
defects_12 = record {
  header = line_items defect_header_12;
  reported_end = λ bytes. 8 + big_number 4 (drop 4 bytes);
  body = λ bytes end. defect_body 8 (list_format bytes) bytes end;
}
