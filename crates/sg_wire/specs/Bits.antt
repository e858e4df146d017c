-- Bits of a byte.
use Rattle.std.specs.Prelude.{ℕ, ◌+◌, ◌-◌, ◌/◌, ◌^◌, Bool, ◌==◌, not, if◌then◌else◌, bit_and}

-- A bit of the mask is set in a byte.
abbrev pub has_bit : ℕ → ℕ → Bool
has_bit byte mask = not (bit_and byte mask == 0)

-- A byte shifted right. A shift by 0 is a case of its own, as there is nothing to compute.
abbrev pub shifted_right : (byte count : ℕ) → ℕ
shifted_right byte count = if count == 0 then byte else byte / 2 ^ count

-- The bits of a byte from a high one down to a low one, as a number.
abbrev pub bits_of : (byte high low : ℕ) → ℕ
bits_of byte high low = bit_and (shifted_right byte low) (2 ^ (high + 1 - low) - 1)
