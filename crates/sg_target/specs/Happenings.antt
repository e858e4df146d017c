-- What happens to a disk between two commands. No initiator sends it, and it has no reply.
use Rattle.std.specs.Prelude.{◌≡◌, ℕ, false, ◌&&◌, nat_le, nat_lt, if◌then◌else◌}
use Rattle.sg_faults.specs.Faults.{Faults, disarmed, no_faults, with_fault}
use Rattle.sg_pages.specs.ModePowerOn.{after_power_on as saved_pages_current}
use Rattle.sg_store.specs.Disk.{disk_grown, max_capacity}
use Rattle.sg_units.specs.Attentions.{raised}
use Rattle.sg_units.specs.Raised.{Conditions, raised_for_all, raised_for_each, raised_for_members}
use Rattle.sg_units.specs.declared.unit_attention.UnitAttention.{UnitAttention}
use Rattle.sg_units.specs.declared.unit_attention.UnitAttention.TheVariants as attention
use Rattle.sg_target.specs.PowerCycle.{after_power_cycle}
use Rattle.sg_target.specs.State.{IsWithinLimits, State}
use Rattle.sg_target.specs.Target.{TargetFields}
use Rattle.sg_target.specs.declared.happening.Happening.{Happening}
use Rattle.sg_target.specs.declared.happening.Happening.TheVariants.{Power, LogicalUnitReset}
use Rattle.sg_target.specs.declared.happening.Happening.TheVariants.{TargetReset, NexusLoss}
use Rattle.sg_target.specs.declared.happening.Happening.TheVariants.{Establish, Grow}
use Rattle.sg_target.specs.declared.happening.Happening.TheVariants.{Arm, Disarm, DisarmAll}

-- Unit attention conditions are established (SAM-5, 5.14).
abbrev pub with_raised : State → Conditions → State
with_raised state conditions =
    record state { attentions = raised_for_each state.attentions conditions }

-- A reset establishes its condition for each initiator, also for the one that asked for it. The saved
-- mode pages become the current ones (SPC-4, 7.5). Blocks, registrations and reservation stay
-- (SAM-5, 6.3).
-- Choice (SBC-3, 5.25): a unit that was stopped may stay so through a reset.
abbrev pub after_reset : UnitAttention → State → State
after_reset condition state =
    record (with_raised state (raised_for_all condition)) {
      modes = saved_pages_current state.modes;
      stopped = false;
    }

-- The disk has more addresses from then on, and tells each initiator (SBC-3, 4.5).
abbrev pub grown : (capacity : ℕ) → State → State
grown capacity state =
    record (with_raised state (raised_for_all attention.CapacityDataChanged)) {
      disk = disk_grown state.disk capacity;
    }

-- No disk gets fewer addresses, or more than the greatest capacity.
abbrev pub after_growth : (capacity : ℕ) → State → State
after_growth capacity state =
    if nat_lt state.disk.capacity capacity && nat_le capacity max_capacity
    then grown capacity state else state

-- The state after a happening, from the state before it.
abbrev pub after_happening : Happening → State → State
after_happening Power state = after_power_cycle state
after_happening LogicalUnitReset state = after_reset attention.BusDeviceReset state
after_happening TargetReset state = after_reset attention.ScsiBusReset state
after_happening (NexusLoss initiator) state =
    record state { attentions = raised state.attentions initiator attention.NexusLoss }
after_happening (Establish condition initiators) state =
    with_raised state (raised_for_members initiators condition)
after_happening (Grow capacity) state = after_growth capacity state
after_happening (Arm fault) state = state
after_happening (Disarm number) state = state
after_happening DisarmAll state = state

-- The faults that are armed after it. They outlive a reset and a power cycle.
abbrev pub faults_after : Happening → Faults → Faults
faults_after (Arm fault) faults = with_fault faults fault
faults_after (Disarm number) faults = disarmed faults number
faults_after DisarmAll faults = no_faults
faults_after _ faults = faults

-- It happens to a target. The counts of the target's store stay.
pub record Happens (happening : Happening) (old new : TargetFields) : Type 0 where
  pub state : new.state ≡ after_happening happening old.state
  pub faults : new.faults ≡ faults_after happening old.faults
  pub meter : new.meter ≡ old.meter
  -- no table passes its limit
  pub limits : IsWithinLimits new.state
