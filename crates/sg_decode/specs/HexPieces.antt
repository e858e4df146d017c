-- The pieces of hexadecimal text that the code writes.
use Rattle.std.specs.Prelude.{ℕ, ◌+◌, ◌*◌, ◌/◌, ◌%◌, List, [], ◌∷◌, length, slice_index, slice_set}
use Rattle.std.specs.List.{flat_map, range_with_len}
use Rattle.hex.specs.Hex.{lower_digits}
use Rattle.sg_decode.specs.HexText.{hex_line, bytes_of_line}

-- The first digit of a byte, and the second.
abbrev pub high_digit : ℕ → ℕ
high_digit byte = slice_index lower_digits (byte / 16)

abbrev pub low_digit : ℕ → ℕ
low_digit byte = slice_index lower_digits (byte % 16)

-- Both, with a blank before them.
abbrev pub spaced_digits : ℕ → List ℕ
spaced_digits byte = 32 ∷ high_digit byte ∷ low_digit byte ∷ []

-- The first lines of bytes, if the first byte has this offset.
unfoldable pub first_hex_lines_from : (offset count : ℕ) → List ℕ → List ℕ
first_hex_lines_from offset count bytes =
    flat_map (λ number. hex_line (offset + 16 * number) (bytes_of_line bytes number))
    (range_with_len 0 count)

-- All of them.
abbrev pub hex_lines_from : (offset : ℕ) → List ℕ → List ℕ
hex_lines_from offset bytes = first_hex_lines_from offset ((length bytes + 15) / 16) bytes

-- The text of a line before its bytes, made from the same text of line 0 of its sixteen lines.
abbrev pub line_head : (first : List ℕ) → (number : ℕ) → List ℕ
line_head first number = slice_set first 8 (slice_index lower_digits number)
