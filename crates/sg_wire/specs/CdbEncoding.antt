-- The CDB of a command (SPC-4, 4.2).
use Rattle.std.specs.Prelude.{ℕ, ◌+◌, ◌-◌, ◌*◌, ◌/◌, ◌%◌, ◌^◌, List, [], ◌∷◌, ◌++◌, slice_index, map}
use Rattle.std.specs.Prelude.{◌&&◌, nat_le, ◌==◌, if◌then◌else◌}
use Rattle.std.specs.List.{range_with_len, flat_map}
use Rattle.byteorder.specs.Endian.{big_bytes}
use Rattle.sg_wire.specs.CdbFields.{Field, Place, Value}
use Rattle.sg_wire.specs.CdbFields.Place.{bit, bits, bytes, short_extent}
use Rattle.sg_wire.specs.Layout.{Layout, ServiceAction, action_place, layout, length_of}
use Rattle.sg_wire.specs.Layout.ServiceAction.{none, named}
use Rattle.sg_wire.specs.declared.command.Command.{Command}

-- The bits that a place puts into byte k, if it has bits there.
abbrev pub part_in : ℕ → (place : Place) → Value place → List ℕ
part_in k (bit byte index) value = if k == byte then (if value then 2 ^ index else 0) ∷ [] else []
part_in k (bits byte high low) value =
    if k == byte then (if low == 0 then value else value * 2 ^ low) ∷ [] else []
part_in k (bytes first last) value =
    if nat_le first k && nat_le k last
    then
    (if first == last then value
    else slice_index (big_bytes (last + 1 - first) value) (k - first)) ∷ []
    else []
part_in k short_extent value =
    let parts = (value.0 / 65536 ∷ []) ++ big_bytes 2 (value.0 % 65536) ++ (value.1 % 256 ∷ []) in
    if nat_le 1 k && nat_le k 4 then slice_index parts (k - 1) ∷ [] else []

abbrev pub action_part : ℕ → ServiceAction → List ℕ
action_part k none = []
action_part k (named action) = part_in k action_place action

-- The parts of a byte together; a byte without one is zero.
abbrev pub joined : List ℕ → ℕ
joined [] = 0
joined (part ∷ []) = part
joined (part ∷ more ∷ rest) = part + joined (more ∷ rest)

abbrev pub byte_of : Layout → ℕ → ℕ
byte_of l k =
    if k == 0 then l.opcode
    else
    joined (action_part k l.action ++ flat_map (λ (f : Field). part_in k f.place f.value) l.fields)

-- The CDB of a command: its operation code, service action and fields, and zero in all other bits.
unfoldable pub cdb_of : Command → List ℕ
cdb_of command =
    let l = layout command in
    map (byte_of l) (range_with_len 0 (length_of l.opcode))
