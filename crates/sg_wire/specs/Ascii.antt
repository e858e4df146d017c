-- The characters of a text.
use Rattle.std.specs.Prelude.{ℕ, Bool, ◌&&◌, nat_le}

-- A printable ASCII character, space included (SPC-4, 4.3.1).
abbrev pub is_printable : ℕ → Bool
is_printable byte = nat_le 0x20 byte && nat_le byte 0x7E
