-- The text of standard INQUIRY data (SPC-4, 6.6.2).
use Rattle.std.specs.Prelude.{ℕ, ◌+◌, List, [], ◌∷◌, ◌++◌, codes, min, slice_index}
use Rattle.sg_decode.specs.HexText.{hex_lines}
use Rattle.sg_decode.specs.Lines.{Line, part}
use Rattle.sg_decode.specs.Items.{Decoder, Item, line_items, as_present}
use Rattle.sg_decode.specs.declared.value.Value.TheVariants.{Bits, Code, Digits, Number, Text}

abbrev pub peripheral : Line
peripheral =
    part (codes "  qualifier: ") (Bits 0 7 5) ∷ part (codes ", type: ") (Code 0 4 0) ∷ []

abbrev pub inquiry_lines : List Line
inquiry_lines =
    peripheral
    ∷ (part (codes "  removable: ") (Bits 1 7 7) ∷ [])
    ∷ (part (codes "  version: ") (Code 2 7 0) ∷ [])
    ∷ (part (codes "  format: ") (Bits 3 3 0) ∷ [])
    ∷ (part (codes "  additional length: ") (Number 4 1) ∷ [])
    ∷ (part (codes "  vendor: ") (Text 8 8) ∷ [])
    ∷ (part (codes "  product: ") (Text 16 16) ∷ [])
    ∷ (part (codes "  revision: ") (Text 32 4) ∷ [])
    ∷ []

-- The 36 bytes that every target returns are shown whatever ADDITIONAL LENGTH contains. The bytes
-- after them, vendor specific ones and version descriptors, are shown in hexadecimal.
abbrev pub inquiry : Decoder
inquiry = record {
  header = line_items inquiry_lines;
  reported_end = λ bytes. 5 + slice_index bytes 4;
  body = λ bytes end. as_present 36 end hex_lines bytes;
}

-- ---- As an extended disk's script shows it

-- The eight version descriptors.
abbrev version_descriptor : (first : ℕ) → Line
version_descriptor first = part (codes "  version descriptor: ") (Digits first 2) ∷ []

abbrev pub version_descriptors : List Line
version_descriptors =
    version_descriptor 58
    ∷ version_descriptor 60
    ∷ version_descriptor 62
    ∷ version_descriptor 64
    ∷ version_descriptor 66
    ∷ version_descriptor 68
    ∷ version_descriptor 70
    ∷ version_descriptor 72
    ∷ []

-- The bytes before the version descriptors, vendor specific ones first, and the bytes after them, which are
-- reserved or vendor specific, are shown in hexadecimal.
abbrev pub before_versions : (end : ℕ) → List ℕ → List Item
before_versions end bytes = as_present 36 (min 58 end) hex_lines bytes

abbrev pub from_versions : (end : ℕ) → List ℕ → List Item
from_versions end bytes = line_items version_descriptors ++ as_present 74 end hex_lines bytes

abbrev pub extended_inquiry : Decoder
extended_inquiry = record {
  header = line_items inquiry_lines;
  reported_end = λ bytes. 5 + slice_index bytes 4;
  body = λ bytes end. before_versions end bytes ++ from_versions end bytes;
}
