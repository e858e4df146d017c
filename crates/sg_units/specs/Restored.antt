-- Registrations and a reservation that persisted through a power loss, and are there again after
-- power on (SPC-4, 5.13, preserving persistent reservations and registrations through power loss).
use Rattle.std.specs.Prelude.{Bool, true, ◌&&◌, not, nat_le, if◌then◌else◌}
use Rattle.std.specs.Prelude.{List, length, Option, Some, None}
use Rattle.std.specs.List.{list_all}
use Rattle.sg_units.specs.Registrations.{has_key, max_registrations, registrations_of}
use Rattle.sg_units.specs.Reservations.{is_held_if_any, names_holder_if_any}
use Rattle.sg_units.specs.declared.registrations.Registration.{Registration}
use Rattle.sg_units.specs.declared.reservation.Reservation.{Reservation}
use Rattle.sg_units.specs.declared.reservation_state.ReservationState.{ReservationState}

-- The initiator of each registration has no other one.
abbrev pub each_once : List Registration → Bool
each_once registrations =
    list_all (λ (r : Registration). nat_le (registrations_of registrations r.initiator) 1) registrations

-- Whether registrations and a reservation are consistent.
abbrev pub are_consistent : List Registration → Option Reservation → Bool
are_consistent registrations reservation =
    nat_le (length registrations) max_registrations
    && (each_once registrations
    && (not (has_key registrations 0)
    && (is_held_if_any reservation registrations && names_holder_if_any reservation)))

-- The state after power on, in which PRGENERATION is 0. The state persists again. None if
-- registrations and reservation are not consistent.
abbrev pub restored_state : List Registration → Option Reservation → Option ReservationState
restored_state registrations reservation =
    if are_consistent registrations reservation
    then Some (record {
      registrations = registrations;
      reservation = reservation;
      generation = 0;
      persists_through_power_loss = true;
    })
    else None
