-- A disk that a file keeps, what the options say of it, and a script on it.
use Rattle.std.specs.Prelude.{◌≡◌, ◌⊎◌, ◌<◌, ℕ, Some}
use Rattle.std.specs.Prelude.{List, Result, Ok, Err, IsErrAnd, IsOkAnd, if◌then◌else◌}
use Rattle.std.specs.Borrow.{Bor}
use Rattle.sg_kept.specs.Asked.{is_other, is_other_profile}
use Rattle.sg_kept.specs.Disk.{IsDead}
use Rattle.sg_kept.specs.Kept.{powered}
use Rattle.sg_kept.specs.Opened.{opened}
use Rattle.sg_kept.specs.declared.disk.KeptDisk.{KeptDisk}
use Rattle.sg_kept.specs.declared.opening.MakeError.{MakeError}
use Rattle.sg_kept.specs.Refused.{IsTrueOf}
use Rattle.sg_kept.specs.declared.opening.OpenDiskError.{OpenDiskError}
use Rattle.sg_kept.specs.declared.opening.OpenDiskError.TheVariants.{Device}
use Rattle.sg_run.specs.ScriptRun.{RunsScript, Snapshot}
use Rattle.sg_run.specs.declared.run.RunFault.{RunFault}
use Rattle.sg_target.specs.Armed.{Armed}
use Rattle.sg_target.specs.Config.{ConfigFields}
use Rattle.sg_target.specs.State.{State}
use Rattle.sg_target.specs.Target.{disk_of}
use Rattle.sgrun.specs.Arguments.{config_of}
use Rattle.sgrun.specs.NewDisk.{Refused, by_run, new_disk}
use Rattle.sgrun.specs.PowerCycles.{AreReadBack}
use Rattle.sgrun.specs.declared.power_cycle.PowerCycle.{PowerCycle}
use Rattle.sgrun.specs.Stops.{stop_of_disk, stop_of_making}
use Rattle.sgrun.specs.declared.disk_options.DiskOptions.{DiskOptions}
use Rattle.sgrun.specs.declared.stop.Stop.{Stop}
use Rattle.sgrun.specs.declared.stop.Stop.TheVariants.{CannotWrite, OtherBlocks, OtherPool}
use Rattle.sgrun.specs.declared.stop.Stop.TheVariants.{OtherProfile, OtherSeed}

-- ---- What options say of a disk that there is

-- Each option that is given has to be the disk's. The seed is the locally assigned identifier.
abbrev pub checked_against : DiskOptions → State → Result Unit Stop
checked_against options state =
    if is_other options.blocks state.disk.capacity then Err OtherBlocks
    else if is_other options.pool state.disk.pool then Err OtherPool
    else if is_other_profile options.profile state.identity then Err OtherProfile
    else if is_other options.seed state.identity.local then Err OtherSeed
    else Ok tt

-- ---- Opening

-- The disk is the new one that the options ask for.
pub record IsMade (options : DiskOptions) (disk : Armed) : Type 0 where
  pub config : ConfigFields
  pub asked : config_of options ≡ Ok config
  pub new : disk ≡ new_disk config

-- Why no disk was made: there is no such new disk, or the making has failed.
abbrev pub IsNotMade : (name : Bor (List ℕ)) → DiskOptions → Stop → Type 0
IsNotMade name options stop =
    (config_of options ≡ Err stop) ⊎ ((error : MakeError) × (stop ≡ stop_of_making name error))

-- The file has no disk: the error is true of the file, and decides the stop. A device is named only if it
-- has failed since the file was opened.
pub record HasNoDisk {F : Type 0} (taken : F → List ℕ) (left failures : F → ℕ) (source : F)
    (name : Bor (List ℕ)) (stop : Stop) : Type 0 where
  pub error : OpenDiskError
  pub read : F
  pub says : IsTrueOf error (taken read) (left read)
  pub cause : error ≡ Device → failures source < failures read
  pub stop_is : stop ≡ stop_of_disk name error

-- The disk of a file is not what an option says.
pub record HasOtherDisk (options : DiskOptions) (stop : Stop) : Type 0 where
  pub bytes : List ℕ
  pub disk : Armed
  pub found : opened bytes ≡ Some disk
  pub differs : checked_against options disk.state ≡ Err stop

-- ---- A script

-- The file stands for the disk.
abbrev pub IsSaved : {S D : Type 0} → (seen : D → List ℕ) → Result (KeptDisk S D) Stop → Type 0
IsSaved seen disk = IsOkAnd disk (λ kept.
    opened (seen kept.journal.device) ≡ Some (powered (disk_of kept.target)))

-- The script was run, and the file stands for the disk after it. If each opening has read what was written,
-- a power cycle in the script left what it leaves of a disk in memory. So the whole run is as on such a disk.
pub record RanAndSaved {S D : Type 0} (seen opening : D → List ℕ) (before : Armed)
    (after : KeptDisk S D) (cycles : List (PowerCycle D)) (old new : Armed → Snapshot)
    (result : Result ℕ Stop) : Type 0 where
  pub ran : Result ℕ RunFault
  pub runs : AreReadBack seen opening cycles → RunsScript (old before) (new (disk_of after.target)) ran
  pub result_is : result ≡ by_run ran
  pub saved : opened (seen after.journal.device) ≡ Some (powered (disk_of after.target))

-- Why a run has no status of the script: the file could not be written, and the disk is dead; or the disk
-- did not come back after a power cycle.
abbrev pub IsLost : {S D : Type 0} → (name : Bor (List ℕ)) → Result (KeptDisk S D) Stop → Stop → Type 0
IsLost name (Ok disk) stop = IsDead disk × (stop ≡ CannotWrite name)
IsLost name (Err gone) stop = stop ≡ gone

-- The script was run on a disk and the disk was saved, or memory was refused before, or the disk was lost.
abbrev pub RunsOnKeptDisk : {S D : Type 0} → (seen opening : D → List ℕ) → (name : Bor (List ℕ))
    → (before : Armed) → (after : Result (KeptDisk S D) Stop) → (cycles : List (PowerCycle D))
    → (old new : Armed → Snapshot) → Result ℕ Stop → Type 0
RunsOnKeptDisk seen opening name before after cycles old new result =
    IsOkAnd after (λ disk. RanAndSaved seen opening before disk cycles old new result)
    ⊎ Refused old new result
    ⊎ IsErrAnd result (IsLost name after)
