-- The text of a field's value.
use Rattle.std.specs.Prelude.{ℕ, ◌+◌, ◌%◌, ◌^◌, List, [], ◌∷◌, ◌++◌, map, drop, codes}
use Rattle.std.specs.Prelude.{decimal, slice_index, slice_range, Option, Some, None, unwrap_or}
use Rattle.std.specs.Prelude.{Bool, ◌&&◌, ◌==◌, nat_le, nat_lt, if◌then◌else◌}
use Rattle.std.specs.List.{flat_map}
use Rattle.byteorder.specs.Endian.{big_number}
use Rattle.hex.specs.Hex.{encode_lower}
use Rattle.sg_wire.specs.Ascii.{is_printable}
use Rattle.sg_wire.specs.Bits.{bits_of, has_bit}
use Rattle.sg_decode.specs.HexText.{upper_hex_byte}
use Rattle.sg_decode.specs.declared.value.Value.{Value}
use Rattle.sg_decode.specs.declared.value.Value.TheVariants.{Bits, Code, Number, Address}
use Rattle.sg_decode.specs.declared.value.Value.TheVariants.{Digits, AlignedAddress}
use Rattle.sg_decode.specs.declared.value.Value.TheVariants.{Text, TextFrom, HexFrom}
use Rattle.sg_decode.specs.declared.value.Value.TheVariants.{ProvisioningStatus, ReservationTypes}

-- A byte of a text. A byte that is no printable ASCII is shown as a dot.
abbrev pub printable : ℕ → ℕ
printable byte = if is_printable byte then byte else 0x2E

abbrev pub bracketed : List ℕ → List ℕ
bracketed bytes = codes "[" ++ (map printable bytes ++ codes "]")

-- PROVISIONING STATUS of an LBA status descriptor (SBC-3, 5.4.2.2).
abbrev pub provisioning_name : ℕ → Option (List ℕ)
provisioning_name status =
    if status == 0 then Some (codes "mapped")
    else (if status == 1 then Some (codes "deallocated")
    else (if status == 2 then Some (codes "anchored")
    else None))

abbrev pub provisioning_text : ℕ → List ℕ
provisioning_text status =
    unwrap_or (provisioning_name status) (codes "reserved " ++ decimal status)

-- A bit of the PERSISTENT RESERVATION TYPE MASK of REPORT CAPABILITIES (SPC-4, 6.15.4), and the
-- name of the type of persistent reservation that it reports.
pub record ReservationType : Type 0 where
  pub byte : ℕ
  pub mask : ℕ
  pub name : List ℕ

abbrev reservation_type : (byte mask : ℕ) → List ℕ → ReservationType
reservation_type byte mask name = record { byte = byte; mask = mask; name = name }

-- In ascending order of the bits of each byte.
abbrev pub reservation_types : List ReservationType
reservation_types =
    reservation_type 0 0x02 (codes " WE")
    ∷ reservation_type 0 0x08 (codes " EA")
    ∷ reservation_type 0 0x20 (codes " WE-RO")
    ∷ reservation_type 0 0x40 (codes " EA-RO")
    ∷ reservation_type 0 0x80 (codes " WE-AR")
    ∷ reservation_type 1 0x01 (codes " EA-AR")
    ∷ []

abbrev pub type_name : (types : List ℕ) → ReservationType → List ℕ
type_name types t = if has_bit (slice_index types t.byte) t.mask then t.name else []

-- The names of the types whose bits are set in a mask of two bytes.
unfoldable pub type_names : (types : List ℕ) → List ℕ
type_names types = flat_map (type_name types) reservation_types

-- The text of a value of some bytes.
unfoldable pub value_text : Value → List ℕ → List ℕ
value_text (Bits byte high low) bytes = decimal (bits_of (slice_index bytes byte) high low)
value_text (Code byte high low) bytes = upper_hex_byte (bits_of (slice_index bytes byte) high low)
value_text (Number first count) bytes = decimal (big_number count (drop first bytes))
value_text (Address first) bytes =
    codes "0x" ++ encode_lower (slice_range bytes first (first + 8))
value_text (Digits first count) bytes =
    codes "0x" ++ encode_lower (slice_range bytes first (first + count))
value_text (AlignedAddress first) bytes = decimal (big_number 2 (drop first bytes) % 2 ^ 14)
value_text (Text first count) bytes = bracketed (slice_range bytes first (first + count))
value_text (TextFrom first) bytes = bracketed (drop first bytes)
value_text (HexFrom first) bytes = encode_lower (drop first bytes)
value_text (ProvisioningStatus byte) bytes =
    provisioning_text (bits_of (slice_index bytes byte) 3 0)
value_text (ReservationTypes first) bytes = type_names (drop first bytes)

-- The index after the last byte that a value needs.
abbrev pub value_end : Value → ℕ
value_end (Bits byte high low) = byte + 1
value_end (Code byte high low) = byte + 1
value_end (Number first count) = first + count
value_end (Address first) = first + 8
value_end (Digits first count) = first + count
value_end (AlignedAddress first) = first + 2
value_end (Text first count) = first + count
value_end (TextFrom first) = first
value_end (HexFrom first) = first
value_end (ProvisioningStatus byte) = byte + 1
value_end (ReservationTypes first) = first + 2

-- ---- Cited only by private contracts

-- Bits are bits of a byte, a number has one to eight bytes, and each index is less than 256.
abbrev is_index : ℕ → Bool
is_index n = nat_lt n 256

abbrev are_bits : (high low : ℕ) → Bool
are_bits high low = nat_lt high 8 && nat_le low high

abbrev pub is_sound : Value → Bool
is_sound (Bits byte high low) = is_index byte && are_bits high low
is_sound (Code byte high low) = is_index byte && are_bits high low
is_sound (Number first count) = is_index first && (nat_le 1 count && nat_le count 8)
is_sound (Address first) = is_index first
is_sound (Digits first count) = is_index first && is_index count
is_sound (AlignedAddress first) = is_index first
is_sound (Text first count) = is_index first && is_index count
is_sound (TextFrom first) = is_index first
is_sound (HexFrom first) = is_index first
is_sound (ProvisioningStatus byte) = is_index byte
is_sound (ReservationTypes first) = is_index first
