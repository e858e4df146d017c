-- The disk after a power cycle.
use Rattle.std.specs.Prelude.{false}
use Rattle.sg_pages.specs.ModePowerOn.{after_power_on as pages_after_power_on}
use Rattle.sg_units.specs.PowerOn.{power_on_pending, after_power_on as reservations_after_power_on}
use Rattle.sg_target.specs.State.{State}

-- The blocks are as they were. The saved mode pages are the current ones (SPC-4, 7.5).
-- Registrations and reservation are as they were if they persist, and gone if not (SPC-4, 5.13).
-- Each initiator has one unit attention, POWER ON, and none of those that were pending (SAM-5,
-- 5.14). The unit is not stopped.
abbrev pub after_power_cycle : State → State
after_power_cycle state =
    record state {
      modes = pages_after_power_on state.modes;
      attentions = power_on_pending;
      reservations = reservations_after_power_on state.reservations;
      stopped = false;
    }
