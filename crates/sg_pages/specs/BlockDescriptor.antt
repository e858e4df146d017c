-- The mode parameter block descriptor (SBC-3, 6.4.2).
use Rattle.std.specs.Prelude.{ℕ, min, List, [], ◌∷◌, ◌++◌, Bool, if◌then◌else◌}
use Rattle.byteorder.specs.Endian.{big_bytes}
use Rattle.sg_pages.specs.declared.mode_pages.multi_byte_field.MultiByteField.{MultiByteField}
use Rattle.sg_pages.specs.MultiByteField.{field}

-- The length of the short and of the long descriptor in bytes, and the length of their field NUMBER
-- OF LOGICAL BLOCKS.
abbrev pub descriptor_length : (long : Bool) → ℕ
descriptor_length long = if long then 16 else 8

abbrev pub number_length : (long : Bool) → ℕ
number_length long = if long then 8 else 4

-- LOGICAL BLOCK LENGTH, in bytes.
abbrev pub logical_block_length : ℕ
logical_block_length = 512

-- NUMBER OF LOGICAL BLOCKS, reserved bytes, and LOGICAL BLOCK LENGTH. In the short descriptor a
-- number that does not fit is FFFFFFFFh.
unfoldable pub block_descriptor : (long : Bool) (blocks : ℕ) → List ℕ
block_descriptor long blocks =
    if long then big_bytes 8 blocks ++ (0 ∷ 0 ∷ 0 ∷ 0 ∷ []) ++ big_bytes 4 logical_block_length
    else big_bytes 4 (min blocks 0xFFFF_FFFF) ++ (0 ∷ []) ++ big_bytes 3 logical_block_length

-- Its fields of more than one byte: NUMBER OF LOGICAL BLOCKS and LOGICAL BLOCK LENGTH. Each reserved
-- byte between them is a field of its own.
abbrev pub descriptor_fields : (long : Bool) → List MultiByteField
descriptor_fields long =
    if long then field 0 8 ∷ field 12 4 ∷ [] else field 0 4 ∷ field 5 3 ∷ []
