-- What the disk keeps for its initiators at power on: on a new disk, and after a power cycle (SPC-4,
-- 5.13, preserving persistent reservations and registrations through power loss).
use Rattle.std.specs.Prelude.{if◌then◌else◌, false, [], None, ◌∷◌, replicate}
use Rattle.sg_units.specs.declared.reservation_state.ReservationState.{ReservationState}
use Rattle.sg_wire.specs.Initiator.{initiator_count}
use Rattle.sg_units.specs.declared.unit_attention.UnitAttention.TheVariants.{PowerOn}
use Rattle.sg_units.specs.Attentions.{Pending}

-- The queues after power on.
-- Choice (SAM-5, 5.14): 29h/01h, POWER ON OCCURRED, may be reported.
abbrev pub power_on_pending : Pending
power_on_pending = replicate initiator_count (PowerOn ∷ [])

-- No initiator is registered, and no reservation is held.
abbrev pub empty_state : ReservationState
empty_state = record {
  registrations = [];
  reservation = None;
  generation = 0;
  persists_through_power_loss = false;
}

-- If registrations and reservation persist, all stays except PRGENERATION. Otherwise nothing stays.
abbrev pub after_power_on : ReservationState → ReservationState
after_power_on state =
    if state.persists_through_power_loss then record state { generation = 0 } else empty_state
