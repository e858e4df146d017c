-- The state after a power cycle is consistent.
use Rattle.std.proofs.Common.{Bool, true, false}
use Rattle.std.specs.Prelude.{if◌then◌else◌}
use Rattle.sg_units.specs.PowerOn.{after_power_on, empty_state}
use Rattle.sg_units.specs.Reservations.{IsConsistent}
use Rattle.sg_units.specs.declared.reservation_state.ReservationState.{ReservationState}
use Rattle.sg_units.proofs.ConsistencyLemmas.{consistent-none}

pub consistent-power_on : (state : ReservationState) → IsConsistent state
    → IsConsistent (after_power_on state)
consistent-power_on state h = split state.persists_through_power_loss
  where
    split : (persists : Bool)
        → IsConsistent (if persists then record state { generation = 0 } else empty_state)
    split true = h
    split false = consistent-none
