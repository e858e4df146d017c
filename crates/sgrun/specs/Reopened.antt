-- A disk in a file that is closed and opened again, and may not come back.
use Rattle.std.specs.Prelude.{ℕ, List, Some, Result, Ok, Err, IfOk, IsOkAnd}
use Rattle.sg_kept.specs.Asked.{profile_of}
use Rattle.sg_kept.specs.Disk.{IsAlive, IsUsable}
use Rattle.sg_kept.specs.declared.disk.KeptDisk.{KeptDisk}
use Rattle.sg_target.specs.Armed.{Armed}
use Rattle.sg_target.specs.Config.{ConfigFields}
use Rattle.sg_target.specs.Target.{TargetFields, disk_of}
use Rattle.sgrun.specs.declared.disk_options.DiskOptions.{DiskOptions}
use Rattle.sgrun.specs.declared.stop.Stop.{Stop}

-- The disk, or the reason why it did not come back after a power cycle. A substitute takes its place then.
abbrev pub disk_in : {S D : Type 0} → (substitute : TargetFields) → Result (KeptDisk S D) Stop → Armed
disk_in substitute (Ok kept) = disk_of kept.target
disk_in substitute (Err stop) = disk_of substitute

-- The disk is there, and its file has not failed.
abbrev pub IsServing : {S D : Type 0} → Result (KeptDisk S D) Stop → Type 0
IsServing disk = IsOkAnd disk IsAlive

-- The next command may come.
abbrev pub IsReady : {S D : Type 0} → (seen : D → List ℕ) → (may_leave : D → List ℕ → Type 0)
    → Result (KeptDisk S D) Stop → Type 0
IsReady seen may_leave disk =
    IfOk disk (λ kept. IsAlive kept → IsUsable seen may_leave kept)

-- The options that ask for a disk as it is: its size, its pool and its identity.
abbrev pub options_of : ConfigFields → DiskOptions
options_of disk = record {
  blocks = Some disk.blocks;
  pool = Some disk.pool;
  profile = Some (profile_of disk.identity);
  seed = Some disk.identity.local;
}
