-- The bytes of registrations and a reservation that persist through a power loss.
use Rattle.std.specs.Prelude.{ℕ, ◌+◌, ◌-◌, nat_le, nat_lt, Bool, true, false, ◌&&◌}
use Rattle.std.specs.Prelude.{Option, Some, None, if◌then◌else◌}
use Rattle.sg_units.specs.Registrations.{max_registrations}
use Rattle.sg_units.specs.ReservationType.{code_of, type_of}
use Rattle.sg_units.specs.declared.registrations.Registration.{Registration}
use Rattle.sg_units.specs.declared.reservation.Reservation.{Reservation}
use Rattle.sg_units.specs.declared.types.ReservationType.{ReservationType}
use Rattle.sg_wire.specs.Initiator.{initiator_count}
use Rattle.sg_changes.specs.Change.{Persistent}
use Rattle.sg_changes.specs.Format.{Format, number, number_below, pair, coded, optional, counted}

-- INITIATOR 1: its number, 0 to 63.
unfoldable pub initiator : Format ℕ
initiator = number_below initiator_count

-- REGISTRANT 1: the number of an initiator. With ALL_TG_PT it has 80h more.
abbrev pub all_tg_pt : ℕ
all_tg_pt = 0x80

abbrev pub registrant_of : ℕ → Option (ℕ × Bool)
registrant_of n =
    if nat_lt n initiator_count then Some (n, false)
    else (if nat_le all_tg_pt n && nat_lt (n - all_tg_pt) initiator_count then Some (n - all_tg_pt, true)
    else None)

abbrev pub registrant_code : ℕ × Bool → Option ℕ
registrant_code r =
    if nat_lt r.0 initiator_count then Some (if r.1 then r.0 + all_tg_pt else r.0) else None

unfoldable pub registrant : Format (ℕ × Bool)
registrant = coded registrant_of registrant_code (number 1)

-- REGISTRANT 1, KEY 8.
unfoldable pub registration : Format Registration
registration =
    coded (λ p. Some (record { initiator = p.0.0; key = p.1; all_tg_pt = p.0.1 }))
    (λ (r : Registration). Some ((r.initiator, r.all_tg_pt), r.key))
    (pair registrant (number 8))

-- TYPE 1: the code of one of the six types.
unfoldable pub reservation_type : Format ReservationType
reservation_type = coded type_of (λ type. Some (code_of type)) (number 1)

-- TYPE 1, and the one HOLDER, if one is named: an INITIATOR.
unfoldable pub reservation : Format Reservation
reservation =
    coded (λ p. Some (record { kind = p.0; holder = p.1 }))
    (λ (r : Reservation). Some (r.kind, r.holder))
    (pair reservation_type (optional initiator))

-- The number of registrations 1, 0 to 64. Each registration, and the reservation, if there is one.
unfoldable pub persistent : Format Persistent
persistent =
    coded (λ p. Some (record { registrations = p.0; reservation = p.1 }))
    (λ (s : Persistent). Some (s.registrations, s.reservation))
    (pair (counted max_registrations registration) (optional reservation))

abbrev pub reservations : Format (Option Persistent)
reservations = optional persistent
