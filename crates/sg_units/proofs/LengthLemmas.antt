-- The data of PERSISTENT RESERVE IN within its length.
use Rattle.std.proofs.Common.{◌≡◌, ◌≤◌, ◌*◌, List, [], ◌∷◌, Option, Some, None, length, refl, arith}
use Rattle.std.proofs.Common.{length-append, lit≤}
use Rattle.std.specs.List.{flat_map}
use Rattle.sg_units.specs.FullStatus.{full_status_data, full_status_descriptor, longest_reserve_in}
use Rattle.sg_units.specs.Registrations.{max_registrations}
use Rattle.sg_units.specs.ReserveIn.{key_bytes, keys_data, reservation_data, reservation_data_of}
use Rattle.sg_units.specs.declared.registrations.Registration.{Registration}
use Rattle.sg_units.specs.declared.reservation.Reservation.{Reservation}
use Rattle.sg_units.specs.declared.reservation_state.ReservationState.{ReservationState}

length-keys : (rs : List Registration) → length (flat_map key_bytes rs) ≡ 8 * length rs
length-keys [] = refl
length-keys (r ∷ rs) =
    let rest = length-keys rs in
    omega (arith, rest, length-append (key_bytes r) (flat_map key_bytes rs))

module _ (reservation : Option Reservation) where
  length-descriptor : (r : Registration) → length (full_status_descriptor reservation r) ≡ 48
  unfolding full_status_descriptor
  length-descriptor r = refl

  length-descriptors : (rs : List Registration)
      → length (flat_map (full_status_descriptor reservation) rs) ≡ 48 * length rs
  length-descriptors [] = refl
  length-descriptors (r ∷ rs) =
      let one = length-descriptor r in
      let rest = length-descriptors rs in
      omega (
        arith,
        one,
        rest,
        length-append (full_status_descriptor reservation r)
            (flat_map (full_status_descriptor reservation) rs),
      )

module _ (state : ReservationState) where
  pub keys-within : length state.registrations ≤ max_registrations
      → length (keys_data state) ≤ longest_reserve_in
  unfolding keys_data
  keys-within h = omega (arith, h, length-keys state.registrations)

  pub full-within : length state.registrations ≤ max_registrations
      → length (full_status_data state) ≤ longest_reserve_in
  unfolding full_status_data
  full-within h = omega (arith, h, length-descriptors state.reservation state.registrations)

  held-within : (held : Option Reservation) → length (reservation_data_of state held) ≤ longest_reserve_in
  held-within None = lit≤ tt
  held-within (Some reservation) = lit≤ tt

  pub reservation-within : length (reservation_data state) ≤ longest_reserve_in
  unfolding reservation_data
  reservation-within = held-within state.reservation
