-- Numbers in scripts and options (docs/SCRIPT.md).
use Rattle.std.specs.Prelude.{ℕ, ◌-◌, ◌^◌, List, length, take, drop, slice_index, Option, Some}
use Rattle.std.specs.Prelude.{None, Bool, ◌&&◌, ◌||◌, ◌==◌, nat_le, nat_lt, if◌then◌else◌}
use Rattle.std.specs.Char.{is_digit}
use Rattle.std.specs.List.{list_all}
use Rattle.std.specs.Str.Parse.{digits_value}

-- One digit or more of a radix, and no other byte.
abbrev pub is_numeral : (radix : ℕ) → List ℕ → Bool
is_numeral radix digits =
    nat_lt 0 (length digits) && list_all (λ digit. is_digit digit radix) digits

-- The value of digits, if it has at most 64 bits.
unfoldable pub number_in : (radix : ℕ) → List ℕ → Option ℕ
number_in radix digits =
    if is_numeral radix digits && nat_lt (digits_value radix digits) (2 ^ 64)
    then Some (digits_value radix digits) else None

-- It begins with 0x, in either case.
abbrev pub has_0x : List ℕ → Bool
has_0x word =
    nat_le 2 (length word)
    && (slice_index word 0 == 0x30 && (slice_index word 1 == 0x78 || slice_index word 1 == 0x58))

-- It ends with h, in either case.
abbrev pub has_h : List ℕ → Bool
has_h word =
    let last = slice_index word (length word - 1) in
    nat_le 1 (length word) && (last == 0x68 || last == 0x48)

-- `0x` and digits, or digits and `h`, are hexadecimal; digits without either are decimal.
unfoldable pub number_of : List ℕ → Option ℕ
number_of word =
    if has_0x word then number_in 16 (drop 2 word)
    else (if has_h word then number_in 16 (take (length word - 1) word)
    else number_in 10 word)

-- A number within a limit.
abbrev pub at_most : (limit : ℕ) → Option ℕ → Option ℕ
at_most limit None = None
at_most limit (Some n) = if nat_le n limit then Some n else None

abbrev pub number_up_to : (limit : ℕ) → List ℕ → Option ℕ
number_up_to limit word = at_most limit (number_of word)
