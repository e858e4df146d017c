-- The number of an initiator in a script.
use Rattle.std.specs.Prelude.{ℕ, ◌-◌, List, [], ◌∷◌, Option, Some, None, ◌&&◌, nat_le, if◌then◌else◌}
use Rattle.sg_wire.specs.Initiator.{initiator_count}
use Rattle.sg_wire.specs.declared.profile.Profile.{Profile}
use Rattle.sg_wire.specs.declared.profile.Profile.TheVariants.{Base, Extended}
use Rattle.sg_tools.specs.Number.{number_up_to}

-- One of eight initiators, in one digit.
abbrev pub digit_of : List ℕ → Option ℕ
digit_of (digit ∷ []) = if nat_le 0x30 digit && nat_le digit 0x37 then Some (digit - 0x30) else None
digit_of word = None

-- The number of an initiator: a digit on a base disk, and on an extended disk a number like any other.
abbrev pub initiator_of : Profile → List ℕ → Option ℕ
initiator_of Base word = digit_of word
initiator_of Extended word = number_up_to (initiator_count - 1) word
