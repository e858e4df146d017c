-- A hexadecimal digit has a value below 16, and any other byte 255. Two of them are a byte of a word.
use Rattle.std.specs.Prelude.{ℕ, List, [], codes, Option, Some, unwrap_or, if◌then◌else◌}
use Rattle.std.specs.Result.{result_ok}
use Rattle.std.specs.Str.{bytes_eq}
use Rattle.hex.specs.Hex.{decode_of, hex_digit_value}

-- The value for a byte that is no digit.
abbrev pub no_digit : ℕ
no_digit = 255

-- The value of a digit in either case.
abbrev pub digit_or_none : ℕ → ℕ
digit_or_none byte = unwrap_or (hex_digit_value byte) no_digit

-- The bytes of a word of hexadecimal digits, two a byte. `-` is a word of no byte.
abbrev pub hex_bytes : List ℕ → Option (List ℕ)
hex_bytes word = if bytes_eq word (codes "-") then Some [] else result_ok (decode_of word)
