-- A disk's room for the fault that a happening arms.
use Rattle.std.specs.Prelude.{Bool, true}
use Rattle.std.specs.List.{list_any}
use Rattle.std.specs.Option.{is_none}
use Rattle.sg_faults.specs.Faults.{Faults}
use Rattle.sg_target.specs.declared.happening.Happening.{Happening}
use Rattle.sg_target.specs.declared.happening.Happening.TheVariants.{Arm}

-- No fault is armed under some number.
abbrev pub has_free_number : Faults → Bool
has_free_number faults = list_any is_none faults

-- Only a fault needs a number.
abbrev pub has_room_for : Happening → Faults → Bool
has_room_for (Arm fault) faults = has_free_number faults
has_room_for happening faults = true
