-- A unit that START STOP UNIT has stopped (SBC-3, 5.25): who stops and starts it, and what it does
-- meanwhile.
use Rattle.std.specs.Prelude.{◌≡◌, ℕ, Bool, true, false, not, List, Result, Ok}
use Rattle.sg_wire.specs.CdbDecoding.{command_in}
use Rattle.sg_wire.specs.declared.command.CdbFault.{CdbFault}
use Rattle.sg_wire.specs.declared.command.Command.{Command}
use Rattle.sg_wire.specs.declared.command.Command.TheVariants as command
use Rattle.sg_wire.specs.declared.command.start_stop.StartStopUnit.{StartStopUnit}
use Rattle.sg_wire.specs.declared.profile.Profile.TheVariants.{Base}
use Rattle.sg_store.specs.Disk.{Contents}
use Rattle.sg_target.specs.Effect.{with_contents}
use Rattle.sg_target.specs.Happenings.{after_happening}
use Rattle.sg_target.specs.Runs.{state_after_events}
use Rattle.sg_target.specs.State.{State, profile_of}
use Rattle.sg_target.specs.Step.{step}
use Rattle.sg_target.specs.declared.event.Event.{Event}
use Rattle.sg_target.specs.declared.happening.Happening.{Happening}
use Rattle.sg_target.specs.declared.happening.Happening.TheVariants.{Power, LogicalUnitReset}
use Rattle.sg_target.specs.declared.happening.Happening.TheVariants.{TargetReset}
use Rattle.sg_target.specs.declared.reply.Status.TheVariants.{Good}
use Rattle.sg_fencing.specs.Fencing.{CountsAsMany}

-- ---- Who stops and starts it

abbrev pub is_start_stop : Result Command CdbFault → Bool
is_start_stop (Ok (command.StartStopUnit c)) = true
is_start_stop _ = false

-- A power cycle and each reset start the unit.
abbrev pub starts_unit : Happening → Bool
starts_unit Power = true
starts_unit LogicalUnitReset = true
starts_unit TargetReset = true
starts_unit _ = false

pub record OnlyStartStopUnitStops : Type 0 where
  -- a START STOP UNIT that ends with GOOD does what START says, and nothing else
  pub good : (state : State) (initiator : ℕ) (cdb data_out : List ℕ) (c : StartStopUnit)
      → command_in (profile_of state) cdb ≡ Ok (command.StartStopUnit c)
      → (step state initiator cdb data_out).answer.status ≡ Good
      → (step state initiator cdb data_out).state ≡ record state { stopped = not c.start }
  -- no other command stops or starts the unit
  pub others : (state : State) (initiator : ℕ) (cdb data_out : List ℕ)
      → is_start_stop (command_in (profile_of state) cdb) ≡ false
      → (step state initiator cdb data_out).state.stopped ≡ state.stopped
  pub happening : (happening : Happening) (state : State) → starts_unit happening ≡ false
      → (after_happening happening state).stopped ≡ state.stopped
  pub started : (happening : Happening) (state : State) → starts_unit happening ≡ true
      → (after_happening happening state).stopped ≡ false

-- A base disk lacks START STOP UNIT. So a new one, which is not stopped, stays so.
abbrev pub BaseDisksAreNeverStopped : Type 0
BaseDisksAreNeverStopped =
    (state : State) (events : List Event) → profile_of state ≡ Base → state.stopped ≡ false
    → (state_after_events state events).stopped ≡ false

-- ---- What it does meanwhile

-- While the unit is stopped, no command changes the disk. No answer depends on the blocks, or on which
-- are mapped. Only LOG SENSE of page 0Ch reports how many are used.
pub record StoppedUnitsAreIdle : Type 0 where
  pub disk : (state : State) (initiator : ℕ) (cdb data_out : List ℕ) → state.stopped ≡ true
      → (step state initiator cdb data_out).state.disk ≡ state.disk
  pub answer : (state : State) (contents : Contents) (initiator : ℕ) (cdb data_out : List ℕ)
      → state.stopped ≡ true → CountsAsMany state contents cdb
      → (step (with_contents state contents) initiator cdb data_out).answer
      ≡ (step state initiator cdb data_out).answer
