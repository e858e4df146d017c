-- Where a field pointer points if a byte is at fault: to the first byte of its field (SPC-4,
-- 4.5.2.4.2).
use Rattle.std.specs.Prelude.{ℕ, ◌+◌, ◌-◌, min, nat_le, nat_lt, Bool, ◌&&◌, if◌then◌else◌}
use Rattle.std.specs.Prelude.{List, [], ◌∷◌}
use Rattle.sg_pages.specs.declared.mode_pages.multi_byte_field.MultiByteField.{MultiByteField}

-- A field of more than one byte: the number of its first byte in the page or in the block
-- descriptor, and the number of its bytes.
abbrev pub field : (first size : ℕ) → MultiByteField
field first size = record { first = first; size = size }

abbrev pub has_byte : MultiByteField → (byte : ℕ) → Bool
has_byte field byte = nat_le field.first byte && nat_lt byte (field.first + field.size)

-- The first byte of the field that a byte belongs to. A byte of none of these fields is a field of
-- its own. If fields overlap, the one that begins first counts.
-- Choice (SPC-4, 4.5.2.4.2): several reserved bytes in a row may be one field.
abbrev pub first_byte_of : (fields : List MultiByteField) → (byte : ℕ) → ℕ
first_byte_of [] byte = byte
first_byte_of (field ∷ fields) byte =
    let first = first_byte_of fields byte in
    if has_byte field byte then min field.first first else first

-- The same in a part of the list that starts at an offset: the byte and its first byte are offsets.
abbrev pub first_byte_in : (fields : List MultiByteField) (start byte : ℕ) → ℕ
first_byte_in fields start byte = start + first_byte_of fields (byte - start)
