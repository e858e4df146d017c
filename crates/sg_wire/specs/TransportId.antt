-- TransportIDs: the names of initiators in the data of persistent reservations (SPC-4, 7.6.4).
use Rattle.std.specs.Prelude.{ℕ, ◌+◌, ◌-◌, ◌*◌, ◌==◌, Bool, ◌&&◌, nat_le, nat_lt, if◌then◌else◌}
use Rattle.std.specs.Prelude.{List, [], ◌∷◌, length, map, min, take, drop, Option, Some, None}
use Rattle.std.specs.Int.{div_ceil}
use Rattle.std.specs.List.{range_with_len}
use Rattle.byteorder.specs.Endian.{big_number}
use Rattle.sg_wire.specs.Fields.{Field, field}
use Rattle.sg_wire.specs.Initiator.{initiator_count}

-- The initiators are SAS ports with locally assigned names (NAA 3h), so that their numbers show. This is
-- the SAS ADDRESS of initiator 0.
abbrev pub first_sas_address : ℕ
first_sas_address = 0x3000000000000100

-- FORMAT CODE 0h and PROTOCOL IDENTIFIER 6h, three reserved bytes, SAS ADDRESS, and twelve
-- reserved bytes.
-- Departure (SPC-4, 7.6.4): the TransportID of the initiator's own protocol there.
abbrev pub transport_id : (initiator : ℕ) → List Field
transport_id initiator =
    field 1 0x06 ∷ field 3 0 ∷ field 8 (first_sas_address + initiator) ∷ field 12 0 ∷ []

abbrev pub transport_id_length : ℕ
transport_id_length = 24

-- ---- TransportIDs that an initiator sends

-- A whole TransportID of a SAS port, in which all that is reserved is zero.
-- Choice (SPC-4, 3.3, reserved): a reserved bit that is set may be ignored.
abbrev pub is_sas : (id : List ℕ) → Bool
is_sas id =
    length id == transport_id_length && big_number 4 id == 0x06000000
    && (big_number 8 (drop 12 id) == 0 && big_number 4 (drop 20 id) == 0)

-- The initiator with a SAS ADDRESS, if there is one.
abbrev pub initiator_at : (address : ℕ) → Option ℕ
initiator_at address =
    if nat_le first_sas_address address && nat_lt (address - first_sas_address) initiator_count
    then Some (address - first_sas_address) else None

-- The initiator that a TransportID names. None if the disk has no such initiator.
unfoldable pub named_by : (id : List ℕ) → Option ℕ
named_by id = if is_sas id then initiator_at (big_number 8 (drop 4 id)) else None

-- TransportIDs follow one another. The last one may be cut short, and names no initiator then. As many
-- are read as there are initiators; what follows them is ignored.
abbrev pub id_count : (bytes : List ℕ) → ℕ
id_count bytes = min (div_ceil (length bytes) transport_id_length) initiator_count

abbrev pub id_at : (bytes : List ℕ) → (index : ℕ) → List ℕ
id_at bytes index = take transport_id_length (drop (transport_id_length * index) bytes)

-- The initiator that each of them names.
abbrev pub named_initiators : (bytes : List ℕ) → List (Option ℕ)
named_initiators bytes = map (λ index. named_by (id_at bytes index)) (range_with_len 0 (id_count bytes))
