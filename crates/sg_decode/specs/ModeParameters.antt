-- The texts of mode parameters (SPC-4, 7.5).
use Rattle.std.specs.Prelude.{ℕ, ◌+◌, List, [], ◌∷◌, ◌++◌, drop, codes, slice_index, Bool, false}
use Rattle.std.specs.Prelude.{◌==◌, ◌&&◌, not, if◌then◌else◌}
use Rattle.byteorder.specs.Endian.{big_number}
use Rattle.sg_wire.specs.Bits.{has_bit}
use Rattle.sg_wire.specs.declared.command.mode.CdbWidth.{CdbWidth}
use Rattle.sg_wire.specs.declared.command.mode.CdbWidth.TheVariants.{Six, Ten}
use Rattle.sg_decode.specs.Lines.{Line, part, line_text}
use Rattle.sg_decode.specs.Items.{Decoder, Item, item, line_items, entries_from}
use Rattle.sg_decode.specs.Entries.{entry_of}
use Rattle.sg_decode.specs.declared.entry.EntryKind.TheVariants.{ModePages}
use Rattle.sg_decode.specs.declared.value.Value.TheVariants.{Bits, Code, Number, HexFrom}

-- The mode parameter header of MODE SENSE(6), of four bytes.
abbrev pub header_6 : List Line
header_6 =
    (part (codes "  mode data length: ") (Number 0 1) ∷ [])
    ∷ (part (codes "  medium type: ") (Code 1 7 0) ∷ [])
    ∷ (part (codes "  WP: ") (Bits 2 7 7) ∷ part (codes ", DPOFUA: ") (Bits 2 4 4) ∷ [])
    ∷ (part (codes "  block descriptor length: ") (Number 3 1) ∷ [])
    ∷ []

-- The mode parameter header of MODE SENSE(10), of eight bytes.
abbrev pub header_10 : List Line
header_10 =
    (part (codes "  mode data length: ") (Number 0 2) ∷ [])
    ∷ (part (codes "  medium type: ") (Code 2 7 0) ∷ [])
    ∷ (part (codes "  WP: ") (Bits 3 7 7) ∷ part (codes ", DPOFUA: ") (Bits 3 4 4) ∷ [])
    ∷ (part (codes "  LONGLBA: ") (Bits 4 0 0) ∷ [])
    ∷ (part (codes "  block descriptor length: ") (Number 6 2) ∷ [])
    ∷ []

-- The short LBA and the long LBA mode parameter block descriptor (SBC-3, 6.4.2). A descriptor of
-- another length is shown in hexadecimal.
abbrev short_descriptor : Line
short_descriptor =
    part (codes "  blocks: ") (Number 0 4) ∷ part (codes ", block length: ") (Number 5 3) ∷ []

abbrev long_descriptor : Line
long_descriptor =
    part (codes "  blocks: ") (Number 0 8) ∷ part (codes ", block length: ") (Number 12 4) ∷ []

abbrev other_descriptor : Line
other_descriptor = part (codes "  descriptor: ") (HexFrom 0) ∷ []

abbrev pub descriptor_line : (long : Bool) → (length : ℕ) → Line
descriptor_line long length =
    if not long && length == 8 then short_descriptor
    else (if long && length == 16 then long_descriptor
    else other_descriptor)

abbrev pub descriptor_items : (first : ℕ) → (long : Bool) → (length : ℕ) → List Item
descriptor_items first long length =
    if length == 0 then []
    else item first (first + length) (line_text (descriptor_line long length)) ∷ []

-- The block descriptor, if there is one, and the pages after it.
abbrev pub mode_body : (first : ℕ) → (long : Bool) → (length : ℕ) → List ℕ → List Item
mode_body first long length bytes =
    descriptor_items first long length ++ entries_from (entry_of ModePages) (first + length) bytes

-- LONGLBA, byte 4 bit 0 of the longer header: the block descriptor is the long one.
abbrev pub has_longlba : List ℕ → Bool
has_longlba bytes = has_bit (slice_index bytes 4) 0x01

-- MODE DATA LENGTH does not count itself. In MODE SENSE(6) there is no LONGLBA.
abbrev pub mode_parameters_6 : Decoder
mode_parameters_6 = record {
  header = line_items header_6;
  reported_end = λ bytes. 1 + slice_index bytes 0;
  body = λ bytes end. mode_body 4 false (slice_index bytes 3) bytes;
}

abbrev pub mode_parameters_10 : Decoder
mode_parameters_10 = record {
  header = line_items header_10;
  reported_end = λ bytes. 2 + big_number 2 bytes;
  body = λ bytes end. mode_body 8 (has_longlba bytes) (big_number 2 (drop 6 bytes)) bytes;
}

abbrev pub mode_parameters : CdbWidth → Decoder
mode_parameters Six = mode_parameters_6
mode_parameters Ten = mode_parameters_10
