-- Sense data that an initiator receives, read in both formats (SPC-4, 4.5).
use Rattle.std.specs.Prelude.{ℕ, zero, suc, ◌+◌, List, [], ◌∷◌, length, take, drop}
use Rattle.std.specs.Prelude.{slice_index, find, option_map, option_and_then, Option, Some, None}
use Rattle.std.specs.Prelude.{Bool, ◌&&◌, ◌||◌, nat_le, ◌==◌, if◌then◌else◌}
use Rattle.byteorder.specs.Endian.{big_number}
use Rattle.sg_wire.specs.declared.sense.Pointer.{Pointer}
use Rattle.sg_wire.specs.Bits.{bits_of, has_bit}
use Rattle.sg_wire.specs.SenseKey.{illegal_request}
use Rattle.sg_wire.specs.SenseData.{SenseFields}

-- The field pointer of three sense-key specific bytes, if SKSV is set.
abbrev pub pointer_in : List ℕ → Option Pointer
pointer_in bytes =
    if has_bit (slice_index bytes 0) 0x80
    then Some (record {
      in_command = has_bit (slice_index bytes 0) 0x40;
      byte = big_number 2 (drop 1 bytes);
    })
    else None

abbrev pub fixed_information : List ℕ → Option ℕ
fixed_information bytes =
    if slice_index bytes 0 == 0xF0 then Some (big_number 4 (drop 3 bytes)) else None

-- Only ILLEGAL REQUEST has a field pointer, and only if the bytes reach that far.
abbrev pub fixed_pointer : List ℕ → ℕ → Option Pointer
fixed_pointer bytes key =
    if nat_le 18 (length bytes) && key == illegal_request then pointer_in (drop 15 bytes) else None

abbrev pub read_fixed : List ℕ → SenseFields
read_fixed bytes = let key = bits_of (slice_index bytes 2) 3 0 in record {
  key = key;
  asc = slice_index bytes 12;
  ascq = slice_index bytes 13;
  information = fixed_information bytes;
  pointer = fixed_pointer bytes key;
}

-- An area begins with a whole descriptor: two bytes, and as many more as the second byte counts.
abbrev pub begins_whole : List ℕ → Bool
begins_whole area = nat_le 2 (length area) && nat_le (2 + slice_index area 1) (length area)

-- The whole descriptors that an area begins with, in order, at most `count` of them.
abbrev pub descriptors_up_to : ℕ → List ℕ → List (List ℕ)
descriptors_up_to zero area = []
descriptors_up_to (suc count) area =
    let size = 2 + slice_index area 1 in
    if begins_whole area then take size area ∷ descriptors_up_to count (drop size area) else []

-- All whole descriptors that an area begins with. An incomplete one ends the list.
unfoldable pub descriptors : List ℕ → List (List ℕ)
descriptors area = descriptors_up_to (length area) area

-- A descriptor of a type and a length, with a bit that is set.
abbrev pub is_descriptor : (type length byte mask : ℕ) → List ℕ → Bool
is_descriptor type length byte mask d =
    slice_index d 0 == type && (slice_index d 1 == length && has_bit (slice_index d byte) mask)

-- Information (SPC-4, 4.5.2.2) with VALID, and sense key specific (SPC-4, 4.5.2.4) with SKSV.
abbrev pub is_information : List ℕ → Bool
is_information d = is_descriptor 0x00 0x0A 2 0x80 d

abbrev pub is_key_specific : List ℕ → Bool
is_key_specific d = is_descriptor 0x02 0x06 4 0x80 d

-- The content of the first descriptor of a kind. Descriptors of other types do not matter.
abbrev pub information_among : List (List ℕ) → Option ℕ
information_among ds = option_map (λ d. big_number 8 (drop 4 d)) (find is_information ds)

abbrev pub pointer_among : List (List ℕ) → Option Pointer
pointer_among ds = option_and_then (λ d. pointer_in (drop 4 d)) (find is_key_specific ds)

-- The descriptors follow eight bytes. The last of the eight is the length of the descriptors.
abbrev pub read_descriptor : List ℕ → SenseFields
read_descriptor bytes =
    let key = bits_of (slice_index bytes 1) 3 0 in
    let area = take (slice_index bytes 7) (drop 8 bytes) in
    record {
      key = key;
      asc = slice_index bytes 2;
      ascq = slice_index bytes 3;
      information = information_among (descriptors area);
      pointer = if key == illegal_request then pointer_among (descriptors area) else None;
    }

-- A current error in fixed format, at least as far as the codes; and in descriptor format.
abbrev pub is_fixed : List ℕ → Bool
is_fixed bytes =
    nat_le 14 (length bytes) && (slice_index bytes 0 == 0x70 || slice_index bytes 0 == 0xF0)

abbrev pub is_descriptor_format : List ℕ → Bool
is_descriptor_format bytes = nat_le 8 (length bytes) && slice_index bytes 0 == 0x72

-- The fields that sense data reports. Deferred errors and all other bytes report nothing.
unfoldable pub read_sense : List ℕ → Option SenseFields
read_sense bytes =
    if is_fixed bytes then Some (read_fixed bytes)
    else (if is_descriptor_format bytes then Some (read_descriptor bytes) else None)
