-- The state of a new disk, and of one that was kept.
use Rattle.std.specs.Prelude.{false}
use Rattle.sg_store.specs.Disk.{Disk, empty_disk}
use Rattle.sg_pages.specs.Identity.{IdentityFields}
use Rattle.sg_pages.specs.ModePage.{ModeState}
use Rattle.sg_pages.specs.ModePowerOn.{initial_state, after_power_on as pages_after_power_on}
use Rattle.sg_units.specs.PowerOn.{power_on_pending, empty_state}
use Rattle.sg_units.specs.PowerOn.{after_power_on as reservations_after_power_on}
use Rattle.sg_units.specs.declared.reservation_state.ReservationState.{ReservationState}
use Rattle.sg_target.specs.Config.{ConfigFields}
use Rattle.sg_target.specs.State.{State}

-- On a new disk no block is mapped, and the mode pages have their default values. POWER ON is
-- pending for each initiator, and none is registered. The unit is not stopped. `PowerCycle` defines
-- the disk after a power cycle.
abbrev pub new_state : ConfigFields → State
new_state config = record {
  identity = config.identity;
  disk = empty_disk config.blocks config.pool;
  modes = initial_state config.identity.profile;
  attentions = power_on_pending;
  reservations = empty_state;
  stopped = false;
}

-- After power on with what a power cycle has left, as `PowerCycle` defines it.
abbrev pub restored_state : IdentityFields → Disk → ModeState → ReservationState → State
restored_state identity disk modes reservations = record {
  identity = identity;
  disk = disk;
  modes = pages_after_power_on modes;
  attentions = power_on_pending;
  reservations = reservations_after_power_on reservations;
  stopped = false;
}
