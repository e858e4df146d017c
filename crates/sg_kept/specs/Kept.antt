-- What a power cycle leaves of a disk, and the disk after it.
use Rattle.std.specs.Prelude.{ℕ}
use Rattle.sg_changes.specs.KeptFields.{KeptFields}
use Rattle.sg_target.specs.Armed.{Armed}
use Rattle.sg_target.specs.NewState.{restored_state}
use Rattle.sg_target.specs.Ports.{after_port_gone}
use Rattle.sg_target.specs.Runs.{armed_after_happening}
use Rattle.sg_target.specs.declared.happening.Happening.TheVariants.{Power}
use Rattle.sg_units.specs.PowerOn.{after_power_on}

-- The disk after a power cycle.
abbrev pub powered : Armed → Armed
powered disk = armed_after_happening disk Power

-- The disk after an initiator's port is gone.
abbrev pub without_port : Armed → (initiator : ℕ) → Armed
without_port disk initiator = record disk { state = after_port_gone disk.state initiator }

abbrev pub kept : Armed → KeptFields
kept disk = record {
  identity = disk.state.identity;
  disk = disk.state.disk;
  saved = disk.state.modes.saved;
  reservations = after_power_on disk.state.reservations;
  faults = disk.faults;
}

-- The disk after power on that has kept this.
abbrev pub restored : KeptFields → Armed
restored kept = record {
  state =
      restored_state kept.identity kept.disk (record { current = kept.saved; saved = kept.saved })
      kept.reservations;
  faults = kept.faults;
}
