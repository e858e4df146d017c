-- The fields of a command descriptor block, CDB (SPC-4, 4.2): their places, and their values.
use Rattle.std.specs.Prelude.{ℕ, ◌+◌, ◌-◌, ◌*◌, ◌^◌, List, [], ◌∷◌, drop, slice_index}
use Rattle.std.specs.Prelude.{Option, Some, None, Bool, not, ◌&&◌, ◌||◌, nat_lt, nat_le, ◌==◌}
use Rattle.std.specs.Prelude.{if◌then◌else◌}
use Rattle.byteorder.specs.Endian.{big_number}
use Rattle.sg_wire.specs.Bits.{bits_of, has_bit}
use Rattle.sg_wire.specs.Profile.{is_in}
use Rattle.sg_wire.specs.declared.profile.Profile.{Profile}
use Rattle.sg_wire.specs.declared.profile.Profile.TheVariants.{Base, Extended}

-- The place of a field: a bit of a byte, some bits of a byte, or whole bytes. Some bits go from a
-- high one to a low one. Whole bytes have the most significant one first. The last place has the
-- address and the transfer length of READ(6) and WRITE(6), in bytes 1 to 4.
pub data Place : Type 0 where
  bit : (byte index : ℕ) → Place
  bits : (byte high low : ℕ) → Place
  bytes : (first last : ℕ) → Place
  short_extent : Place

-- The content of a field: whether its bit is set, a number, or the address and the count of blocks.
abbrev pub Value : Place → Type 0
Value (bit byte index) = Bool
Value (bits byte high low) = ℕ
Value (bytes first last) = ℕ
Value short_extent = ℕ × ℕ

-- A place with its value, on disks of a profile. To a base disk the bits of an extended disk's field
-- are reserved.
pub record Field : Type 0 where
  pub profile : Profile
  pub place : Place
  pub value : Value place

-- A field of each disk, and a field that only an extended disk has.
abbrev pub field : (place : Place) → Value place → Field
field place value = record { profile = Base; place = place; value = value }

abbrev pub extended_field : (place : Place) → Value place → Field
extended_field place value = record (field place value) { profile = Extended }

-- In six bytes a TRANSFER LENGTH of 0 means 256 blocks (SBC-2, READ(6)).
abbrev pub blocks_of : ℕ → ℕ
blocks_of transfer_length = if transfer_length == 0 then 256 else transfer_length

-- An address of 21 bits and 1 to 256 blocks.
abbrev pub checked_extent : (lba count : ℕ) → Option (ℕ × ℕ)
checked_extent lba count =
    if nat_lt lba (2 ^ 21) && (nat_le 1 count && nat_le count 256) then Some (lba, count) else None

-- ---- The value at a place
-- Here and in CdbEncoding.antt, a field of one byte, a shift by 0 and a single part are cases of their
-- own. They have nothing to compute. The other case would give the same for each value that fits.

-- The number in some bytes.
abbrev pub number_at : List ℕ → (first last : ℕ) → ℕ
number_at cdb first last =
    if first == last then slice_index cdb first else big_number (last + 1 - first) (drop first cdb)

-- The value at a place.
abbrev pub value_at : List ℕ → (place : Place) → Value place
value_at cdb (bit byte index) = has_bit (slice_index cdb byte) (2 ^ index)
value_at cdb (bits byte high low) = bits_of (slice_index cdb byte) high low
value_at cdb (bytes first last) = number_at cdb first last
value_at cdb short_extent =
    (bits_of (slice_index cdb 1) 4 0 * 65536 + number_at cdb 2 3, blocks_of (slice_index cdb 4))

-- No bit of the place is set.
abbrev pub is_zero : (place : Place) → Value place → Bool
is_zero (bit byte index) value = not value
is_zero (bits byte high low) value = value == 0
is_zero (bytes first last) value = value == 0
is_zero short_extent value = value.0 == 0 && value.1 == 256

-- A disk of a profile has the field, or has no use for it, because its bits are zero.
abbrev pub allows_field : Profile → Field → Bool
allows_field profile f = is_in f.profile profile || is_zero f.place f.value

-- ---- The bits of a place

-- The bits of a place in byte k.
abbrev pub mask_in : ℕ → Place → ℕ
mask_in k (bit byte index) = if k == byte then 2 ^ index else 0
mask_in k (bits byte high low) = if k == byte then 2 ^ (high + 1) - 2 ^ low else 0
mask_in k (bytes first last) = if nat_le first k && nat_le k last then 0xFF else 0
mask_in k short_extent = slice_index (0 ∷ 0x1F ∷ 0xFF ∷ 0xFF ∷ 0xFF ∷ 0 ∷ []) k
