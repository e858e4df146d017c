-- Bytes and numbers in hexadecimal, and lines of sixteen bytes.
use Rattle.std.specs.Prelude.{ℕ, ◌+◌, ◌*◌, ◌/◌, ◌%◌, ◌^◌, List, [], ◌∷◌, ◌++◌, length, map, codes}
use Rattle.std.specs.Prelude.{slice_range}
use Rattle.std.specs.List.{flat_map, join_with_byte, range_with_len}
use Rattle.std.specs.Int.{to_be_bytes, w32}
use Rattle.hex.specs.Hex.{encode_lower, encode_upper}

-- A byte as two upper-case digits and an h.
abbrev pub upper_hex_byte : ℕ → List ℕ
upper_hex_byte byte = encode_upper (byte ∷ []) ++ codes "h"

-- A byte as two lower-case digits.
abbrev pub hex_byte : ℕ → List ℕ
hex_byte byte = encode_lower (byte ∷ [])

-- A number as eight lower-case digits.
abbrev pub hex_offset : ℕ → List ℕ
hex_offset offset = encode_lower (to_be_bytes w32 offset)

-- A line of bytes: the offset of the first, and the bytes with a blank between them.
unfoldable pub hex_line : (offset : ℕ) → (bytes : List ℕ) → List ℕ
hex_line offset bytes =
    codes "  " ++ (hex_offset offset ++ (codes "  "
    ++ (join_with_byte 32 (map hex_byte bytes) ++ codes "\n")))

-- The sixteen bytes of the line with this number, or the fewer that are left.
abbrev pub bytes_of_line : List ℕ → (number : ℕ) → List ℕ
bytes_of_line bytes number = slice_range bytes (16 * number) (16 * number + 16)

-- The first lines. An offset has 32 bits, and is 0 again after FFFFFFF0h.
unfoldable pub first_hex_lines : (count : ℕ) → List ℕ → List ℕ
first_hex_lines count bytes =
    flat_map (λ number. hex_line (16 * number % 2 ^ 32) (bytes_of_line bytes number))
    (range_with_len 0 count)

-- The bytes in lines of sixteen.
abbrev pub hex_lines : List ℕ → List ℕ
hex_lines bytes = first_hex_lines ((length bytes + 15) / 16) bytes

-- The length of the text of sixteen whole lines.
abbrev pub gathered_text : ℕ
gathered_text = 960

-- ---- Cited only by private contracts

-- A byte with a blank before it.
abbrev pub blank_hex_byte : ℕ → List ℕ
blank_hex_byte byte = 32 ∷ hex_byte byte
