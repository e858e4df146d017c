-- The command of a CDB, and what its operation code and service action decide (SPC-4, 4.2), on a
-- disk of a profile.
use Rattle.std.specs.Prelude.{ℕ, ◌+◌, List, [], ◌∷◌, ◌++◌, length, map, filter, find, fold}
use Rattle.std.specs.Prelude.{Option, Some, None, Result, Ok, Err, Bool, true, ◌&&◌, nat_lt, ◌==◌}
use Rattle.std.specs.Prelude.{if◌then◌else◌, bit_and, bit_or}
use Rattle.std.specs.List.{range_with_len, list_all}
use Rattle.std.specs.Option.{option_map_or}
use Rattle.sg_wire.specs.CdbFields.{Field, Place, mask_in, value_at}
use Rattle.sg_wire.specs.Layout.{Layout, Maker, ServiceAction, action_place, layout, length_of, table}
use Rattle.sg_wire.specs.Layout.ServiceAction.{none, named}
use Rattle.sg_wire.specs.Profile.{is_in}
use Rattle.sg_wire.specs.declared.command.Class.{Class}
use Rattle.sg_wire.specs.declared.command.Class.TheVariants.{Always}
use Rattle.sg_wire.specs.declared.command.Command.{Command}
use Rattle.sg_wire.specs.declared.command.CdbFault.{CdbFault}
use Rattle.sg_wire.specs.declared.command.CdbFault.TheVariants.{Empty, Opcode, Short, Field as BadField}
use Rattle.sg_wire.specs.declared.profile.Profile.{Profile}
use Rattle.sg_wire.specs.declared.profile.Profile.TheVariants.{Extended}

-- The rows that a disk of a profile has of an operation code.
abbrev pub rows_in : Profile → (opcode : ℕ) → List Layout
rows_in profile opcode = filter (λ l. l.opcode == opcode && is_in l.profile profile) table

-- The SERVICE ACTION field of a CDB, or zero if the CDB ends before it.
abbrev pub service_action : List ℕ → ℕ
service_action cdb = value_at cdb action_place

abbrev pub is_action : ServiceAction → ℕ → Bool
is_action none action = true
is_action (named only) action = action == only

-- The CDB has the service action of the row.
abbrev pub has_action_of : List ℕ → Layout → Bool
has_action_of cdb l = is_action l.action (service_action cdb)

-- ---- The bits that may be set

abbrev pub action_places : ServiceAction → List Place
action_places none = []
action_places (named action) = action_place ∷ []

-- The bits that some places have in byte k.
abbrev pub bits_in : ℕ → List Place → ℕ
bits_in k places = fold bit_or 0 (map (mask_in k) places)

-- The places of the fields that a disk of a profile has.
abbrev pub places_in : Profile → List Field → List Place
places_in profile fields = map (λ (f : Field). f.place) (filter (λ f. is_in f.profile profile) fields)

-- The bits of byte k that are fields of the row. Byte 0, the operation code, is one.
abbrev pub field_bits : Profile → Layout → ℕ → ℕ
field_bits profile l k =
    if k == 0 then 0xFF else bits_in k (action_places l.action ++ places_in profile l.fields)

-- The bits of byte k that may be set.
-- Choice (SPC-4, 3.3, reserved): a reserved or obsolete bit may be ignored.
-- Choice (SAM-5, 5.2): bits 7 and 6 of CONTROL may have a meaning.
abbrev pub mask_of : Profile → Layout → ℕ → ℕ
mask_of profile l k = bit_or (field_bits profile l k) (bits_in k (l.free.used ++ l.free.ignored))

-- The bits that may be set, byte by byte.
abbrev pub masks_in : Profile → Layout → List ℕ
masks_in profile l = map (mask_of profile l) (range_with_len 0 (length_of l.opcode))

-- Those of an extended disk, which has every field.
abbrev pub masks : Layout → List ℕ
masks l = masks_in Extended l

-- The first byte, counted from k, that has a bit outside its mask.
-- Departure (SPC-4, 4.5.2.4.2): the pointer is to the first byte of an obsolete field there.
abbrev pub first_bad : ℕ → List ℕ → List ℕ → Option ℕ
first_bad k [] cdb = None
first_bad k (mask ∷ masks) [] = None
first_bad k (mask ∷ masks) (byte ∷ cdb) =
    if bit_and byte mask == byte then first_bad (k + 1) masks cdb else Some k

-- ---- The command

-- A value, or the bad byte.
abbrev pub unless_bad : {A : Type 0} → Option ℕ → A → Result A CdbFault
unless_bad None value = Ok value
unless_bad (Some byte) value = Err (BadField byte)

-- The command whose fields have the values at their places.
abbrev pub make_from : List ℕ → (fields : List Field) → Maker fields → Command
make_from cdb [] command = command
make_from cdb (field ∷ fields) make = make_from cdb fields (make (value_at cdb field.place))

-- The command by its row. A service action that no row has is a fault of byte 1.
abbrev pub command_by_row : Profile → List ℕ → Option Layout → Result Command CdbFault
command_by_row profile cdb None = Err (BadField 1)
command_by_row profile cdb (Some l) =
    unless_bad (first_bad 0 (masks_in profile l) cdb) (make_from cdb l.fields l.make)

-- The command by the rows of its operation code.
abbrev pub command_by_rows : Profile → List ℕ → List Layout → Result Command CdbFault
command_by_rows profile cdb [] = Err Opcode
command_by_rows profile cdb (l ∷ ls) =
    if nat_lt (length cdb) (length_of l.opcode) then Err (Short (length cdb))
    else command_by_row profile cdb (find (has_action_of cdb) (l ∷ ls))

-- The command of a CDB, or its first fault. Bytes past the command's length do not matter.
unfoldable pub command_in : Profile → List ℕ → Result Command CdbFault
command_in profile [] = Err Empty
command_in profile (opcode ∷ rest) =
    command_by_rows profile (opcode ∷ rest) (rows_in profile opcode)

-- The command of a CDB, whichever profiles have it: the extended profile has every row and field.
abbrev pub command_of : List ℕ → Result Command CdbFault
command_of cdb = command_in Extended cdb

-- ---- What is known of a CDB before its other bits are checked

-- The class of the command that a row makes of the CDB, even if the disk does not allow its other bits.
-- A field that the CDB does not have is zero. Only the class of START STOP UNIT depends on fields.
abbrev pub class_by_row : List ℕ → Layout → Class
class_by_row cdb l = (layout (make_from cdb l.fields l.make)).class

-- If no row has the service action, the class is Always.
-- Choice (SPC-4, 5.13): an unknown service action may be a conflict.
abbrev pub class_by_rows : List ℕ → List Layout → Option Class
class_by_rows cdb [] = None
class_by_rows cdb (l ∷ ls) =
    Some (option_map_or (class_by_row cdb) (find (has_action_of cdb) (l ∷ ls)) Always)

-- The reservation class; None for no byte and for an unknown operation code.
unfoldable pub class_in : Profile → List ℕ → Option Class
class_in profile [] = None
class_in profile (opcode ∷ rest) = class_by_rows (opcode ∷ rest) (rows_in profile opcode)

-- The class of a CDB, whichever profiles have its command.
abbrev pub class_of : List ℕ → Option Class
class_of cdb = class_in Extended cdb

-- A pending unit attention is reported in place of the command. This holds for no byte too, and for
-- an unknown operation code.
unfoldable pub is_blocked_in : Profile → List ℕ → Bool
is_blocked_in profile [] = true
is_blocked_in profile (opcode ∷ rest) =
    list_all (λ (l : Layout). l.blocked_by_attention) (rows_in profile opcode)
