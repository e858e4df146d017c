-- The types of persistent reservation (SPC-4, 6.15.3).
use Rattle.std.specs.Prelude.{ℕ, ◌==◌, Bool, true, false, List, [], ◌∷◌, find, Option}
use Rattle.sg_units.specs.declared.types.ReservationType.{ReservationType}
use Rattle.sg_units.specs.declared.types.ReservationType.TheVariants.{WriteExclusive, ExclusiveAccess}
use Rattle.sg_units.specs.declared.types.ReservationType.TheVariants.{WriteExclusiveRegistrantsOnly}
use Rattle.sg_units.specs.declared.types.ReservationType.TheVariants.{ExclusiveAccessRegistrantsOnly}
use Rattle.sg_units.specs.declared.types.ReservationType.TheVariants.{WriteExclusiveAllRegistrants}
use Rattle.sg_units.specs.declared.types.ReservationType.TheVariants.{ExclusiveAccessAllRegistrants}

-- The code of the TYPE field. With the scope of a logical unit, 0h, it is the whole byte.
abbrev pub code_of : ReservationType → ℕ
code_of WriteExclusive = 0x01
code_of ExclusiveAccess = 0x03
code_of WriteExclusiveRegistrantsOnly = 0x05
code_of ExclusiveAccessRegistrantsOnly = 0x06
code_of WriteExclusiveAllRegistrants = 0x07
code_of ExclusiveAccessAllRegistrants = 0x08

abbrev pub each_type : List ReservationType
each_type =
    WriteExclusive
    ∷ ExclusiveAccess
    ∷ WriteExclusiveRegistrantsOnly
    ∷ ExclusiveAccessRegistrantsOnly
    ∷ WriteExclusiveAllRegistrants
    ∷ ExclusiveAccessAllRegistrants
    ∷ []

-- The type in a byte of SCOPE and TYPE. None if the scope or the type is not valid.
abbrev pub type_of : ℕ → Option ReservationType
type_of scope_type = find (λ type. code_of type == scope_type) each_type

abbrev pub is_same_type : ReservationType → ReservationType → Bool
is_same_type a b = code_of a == code_of b

-- Each registrant is a holder: the all registrants types.
abbrev pub is_all_registrants : ReservationType → Bool
is_all_registrants WriteExclusiveAllRegistrants = true
is_all_registrants ExclusiveAccessAllRegistrants = true
is_all_registrants type = false

-- Each registrant has the access of a holder: the registrants only and the all registrants types.
abbrev pub is_shared : ReservationType → Bool
is_shared WriteExclusive = false
is_shared ExclusiveAccess = false
is_shared type = true
