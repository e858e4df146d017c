-- The word of a sense code: `KEY/ASC/ASCQ`, in hexadecimal digits, as in `3/11/00`.
use Rattle.std.specs.Prelude.{ℕ, ◌*◌, ◌+◌, List, [], ◌∷◌, ◌&&◌, ◌==◌, if◌then◌else◌, Option, Some, None}
use Rattle.hex.specs.Hex.{hex_digit_value}
use Rattle.sg_faults.specs.SenseCode.{sense_code_of as code_of_numbers}
use Rattle.sg_faults.specs.declared.sense_code.SenseCode.{SenseCode}

-- The value of two digits.
abbrev pub byte_by : (high low : Option ℕ) → Option ℕ
byte_by (Some high) (Some low) = Some (high * 16 + low)
byte_by _ _ = None

abbrev pub hex_byte : (high low : ℕ) → Option ℕ
hex_byte high low = byte_by (hex_digit_value high) (hex_digit_value low)

abbrev pub slash : ℕ
slash = 0x2F

abbrev pub sense_code_by : (key asc ascq : Option ℕ) → Option SenseCode
sense_code_by (Some key) (Some asc) (Some ascq) = code_of_numbers key asc ascq
sense_code_by _ _ _ = None

-- The sense key has one digit, and each of the other two numbers has two. Ch is no sense key.
abbrev pub sense_code_of : List ℕ → Option SenseCode
sense_code_of (key ∷ first ∷ a ∷ b ∷ second ∷ c ∷ d ∷ []) =
    if first == slash && second == slash
    then sense_code_by (hex_digit_value key) (hex_byte a b) (hex_byte c d) else None
sense_code_of _ = None
