-- Registrations and the persistent reservation (SPC-4, 5.13).
use Rattle.std.specs.Prelude.{ℕ, ◌≡◌, ◌≤◌, ◌==◌, Bool, true, false, ◌&&◌, if◌then◌else◌}
use Rattle.std.specs.Prelude.{List, length, Option, Some, None, is_some, is_none}
use Rattle.std.specs.List.{list_any}
use Rattle.std.specs.Option.{option_map_or}
use Rattle.sg_units.specs.Registrations.{has_key, is_registered, max_registrations}
use Rattle.sg_units.specs.Registrations.{registrations_of}
use Rattle.sg_units.specs.ReservationType.{is_all_registrants, is_same_type}
use Rattle.sg_units.specs.declared.registrations.Registration.{Registration}
use Rattle.sg_units.specs.declared.reservation.Reservation.{Reservation}
use Rattle.sg_units.specs.declared.reservation_state.ReservationState.{ReservationState}
use Rattle.sg_units.specs.declared.types.ReservationType.{ReservationType}

-- ---- Holders

-- If an initiator takes a reservation, the initiator is its one holder. An all registrants
-- reservation names no holder.
abbrev pub taken : ReservationType → (initiator : ℕ) → Reservation
taken type initiator = record {
  kind = type;
  holder = if is_all_registrants type then None else Some initiator;
}

-- A registrant holds a reservation: it is the one holder, or no holder is named.
abbrev pub holds : Reservation → (registrant : ℕ) → Bool
holds reservation registrant =
    option_map_or (λ holder. registrant == holder) reservation.holder true

abbrev pub has_holder : Reservation → List Registration → Bool
has_holder reservation registrations =
    list_any (λ (r : Registration). holds reservation r.initiator) registrations

-- A reservation ends if no registrant holds it any more.
abbrev pub while_held : Option Reservation → List Registration → Option Reservation
while_held None registrations = None
while_held (Some reservation) registrations =
    if has_holder reservation registrations then Some reservation else None

abbrev pub is_held_by : Option Reservation → List Registration → (initiator : ℕ) → Bool
is_held_by None registrations initiator = false
is_held_by (Some reservation) registrations initiator =
    is_registered registrations initiator && holds reservation initiator

abbrev pub is_holder : ReservationState → (initiator : ℕ) → Bool
is_holder state initiator = is_held_by state.reservation state.registrations initiator

-- A reservation is held, and is of a type.
abbrev pub has_type : Option Reservation → ReservationType → Bool
has_type None type = false
has_type (Some reservation) type = is_same_type reservation.kind type

-- ---- What is true of every state

-- A reservation that is held has a holder among the registrants.
abbrev pub is_held_if_any : Option Reservation → List Registration → Bool
is_held_if_any None registrations = true
is_held_if_any (Some reservation) registrations = has_holder reservation registrations

-- A reservation names its one holder, unless it is an all registrants reservation.
abbrev pub names_holder : (all_registrants : Bool) (holder : Option ℕ) → Bool
names_holder true holder = is_none holder
names_holder false holder = is_some holder

abbrev pub names_holder_if_any : Option Reservation → Bool
names_holder_if_any None = true
names_holder_if_any (Some reservation) =
    names_holder (is_all_registrants reservation.kind) reservation.holder

-- No initiator is registered twice, and none under the key 0. There are no more registrations than
-- there is room for. A reservation has the holders that its type asks for.
pub record AreConsistent (registrations : List Registration) (reservation : Option Reservation) : Type 0 where
  pub one_each : (initiator : ℕ) → registrations_of registrations initiator ≤ 1
  pub no_zero_key : has_key registrations 0 ≡ false
  pub within_room : length registrations ≤ max_registrations
  pub held : is_held_if_any reservation registrations ≡ true
  pub holder : names_holder_if_any reservation ≡ true

abbrev pub IsConsistent : ReservationState → Type 0
IsConsistent state = AreConsistent state.registrations state.reservation
