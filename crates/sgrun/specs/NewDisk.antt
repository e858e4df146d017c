-- A script is run on a disk as it is after power on, or memory was refused.
use Rattle.std.specs.Prelude.{◌≡◌, ℕ, Result, Ok, Err, ◌⊎◌}
use Rattle.sg_faults.specs.Faults.{no_faults}
use Rattle.sg_run.specs.ScriptRun.{RunsScript, Snapshot}
use Rattle.sg_run.specs.declared.run.RunFault.{RunFault}
use Rattle.sg_target.specs.Armed.{Armed}
use Rattle.sg_target.specs.Config.{ConfigFields}
use Rattle.sg_target.specs.NewState.{new_state}
use Rattle.sgrun.specs.Stops.{stop_of_run}
use Rattle.sgrun.specs.declared.stop.Stop.{Stop}
use Rattle.sgrun.specs.declared.stop.Stop.TheVariants.{OutOfMemory}

-- A disk as it is after power on. No fault is armed on it.
abbrev pub new_disk : ConfigFields → Armed
new_disk config = record { state = new_state config; faults = no_faults }

abbrev pub by_run : Result ℕ RunFault → Result ℕ Stop
by_run (Ok status) = Ok status
by_run (Err fault) = Err (stop_of_run fault)

-- The script was run. `old` and `new` are its reader, its writer and the disk before and after the
-- run, for any disk that the target may be.
pub record Ran (old new : Snapshot) (result : Result ℕ Stop) : Type 0 where
  pub ran : Result ℕ RunFault
  pub runs : RunsScript old new ran
  pub result_is : result ≡ by_run ran

-- Memory was refused before anything was read or written.
pub record Refused (old new : Armed → Snapshot) (result : Result ℕ Stop) : Type 0 where
  pub kept : (disk : Armed) → new disk ≡ old disk
  pub result_is : result ≡ Err OutOfMemory

-- The script was run on a disk, or memory was refused.
abbrev pub RunsUnlessRefused : (before after : Armed) (old new : Armed → Snapshot)
    → Result ℕ Stop → Type 0
RunsUnlessRefused before after old new result =
    Ran (old before) (new after) result ⊎ Refused old new result

-- The disk was as it is after power on.
pub record RunsOnNewDisk (config : ConfigFields) (old new : Armed → Snapshot) (result : Result ℕ Stop)
    : Type 0 where
  pub disk : Armed
  pub runs : RunsUnlessRefused (new_disk config) disk old new result
