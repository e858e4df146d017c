-- The room that a CDB has for the values of a command.
use Rattle.std.specs.Prelude.{◌+◌, ◌-◌, ◌^◌, List, Bool, true, ◌&&◌, nat_lt, nat_le}
use Rattle.std.specs.List.{list_all}
use Rattle.sg_wire.specs.CdbFields.{Field, Place, Value}
use Rattle.sg_wire.specs.Layout.{layout}
use Rattle.sg_wire.specs.CdbFields.Place.{bit, bits, bytes, short_extent}
use Rattle.sg_wire.specs.declared.command.Command.{Command}

-- A place has room for a value.
abbrev pub has_room : (place : Place) → Value place → Bool
has_room (bit byte index) value = true
has_room (bits byte high low) value = nat_lt value (2 ^ (high + 1 - low))
has_room (bytes first last) value = nat_lt value (256 ^ (last + 1 - first))
has_room short_extent value = nat_lt value.0 (2 ^ 21) && (nat_le 1 value.1 && nat_le value.1 256)

abbrev pub have_room : List Field → Bool
have_room fields = list_all (λ (f : Field). has_room f.place f.value) fields

-- Each field has room for its value.
abbrev pub fits_cdb : Command → Bool
fits_cdb command = have_room (layout command).fields
