-- READ FULL STATUS (SPC-4, 6.15.5).
use Rattle.std.specs.Prelude.{ℕ, ◌+◌, ◌*◌, Bool, List, ◌∷◌, ◌++◌, length, if◌then◌else◌}
use Rattle.std.specs.Prelude.{Option, Some, None}
use Rattle.std.specs.List.{flat_map}
use Rattle.sg_wire.specs.Fields.{Field, field, fields_bytes}
use Rattle.sg_wire.specs.TargetPort.{relative_target_port}
use Rattle.sg_wire.specs.TransportId.{transport_id, transport_id_length}
use Rattle.sg_units.specs.Registrations.{max_registrations}
use Rattle.sg_units.specs.Reservations.{holds}
use Rattle.sg_units.specs.ReservationType.{code_of}
use Rattle.sg_units.specs.ReserveIn.{header}
use Rattle.sg_units.specs.declared.registrations.Registration.{Registration}
use Rattle.sg_units.specs.declared.reservation.Reservation.{Reservation}
use Rattle.sg_units.specs.declared.reservation_state.ReservationState.{ReservationState}

-- ---- A full status descriptor

-- R_HOLDER: a registrant holds the reservation, if any is held. Under an all registrants type each
-- registrant holds it.
abbrev pub holder_flag : Option Reservation → (registrant : ℕ) → ℕ
holder_flag None registrant = 0
holder_flag (Some reservation) registrant = if holds reservation registrant then 1 else 0

-- SCOPE and TYPE of the reservation that a registrant holds, and zeros if it holds none.
-- Choice (SPC-4, 6.15.5): the byte is not defined for a registrant that holds nothing.
abbrev pub held_type : Option Reservation → (registrant : ℕ) → ℕ
held_type None registrant = 0
held_type (Some reservation) registrant =
    if holds reservation registrant then code_of reservation.kind else 0

-- ALL_TG_PT, bit 1: the registration is for every target port.
abbrev pub ports_flag : (all_tg_pt : Bool) → ℕ
ports_flag all_tg_pt = if all_tg_pt then 2 else 0

-- The fields of the descriptor, in order. First come RESERVATION KEY, four reserved bytes,
-- ALL_TG_PT with R_HOLDER, and SCOPE with TYPE. Then come four reserved bytes, RELATIVE TARGET
-- PORT IDENTIFIER, ADDITIONAL DESCRIPTOR LENGTH, and the TransportID.
-- Choice (SPC-4, 6.15.5): with ALL_TG_PT the RELATIVE TARGET PORT IDENTIFIER is not defined.
abbrev pub full_status_fields : Option Reservation → Registration → List Field
full_status_fields reservation r =
    field 8 r.key
    ∷ field 4 0
    ∷ field 1 (ports_flag r.all_tg_pt + holder_flag reservation r.initiator)
    ∷ field 1 (held_type reservation r.initiator)
    ∷ field 4 0
    ∷ field 2 relative_target_port
    ∷ field 4 transport_id_length
    ∷ transport_id r.initiator

unfoldable pub full_status_descriptor : Option Reservation → Registration → List ℕ
full_status_descriptor reservation r = fields_bytes (full_status_fields reservation r)

abbrev pub full_status_length : ℕ
full_status_length = 48

-- ---- The data

-- The length of the longest data of PERSISTENT RESERVE IN, in bytes: READ FULL STATUS with all
-- registrations that there is room for.
abbrev pub longest_reserve_in : ℕ
longest_reserve_in = 8 + full_status_length * max_registrations

-- A descriptor for each registration, in their order.
unfoldable pub full_status_data : ReservationState → List ℕ
full_status_data state =
    header state.generation (full_status_length * length state.registrations)
    ++ flat_map (full_status_descriptor state.reservation) state.registrations
