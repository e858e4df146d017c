-- A disk in a file that keeps its calls, between two commands.
use Rattle.std.specs.Prelude.{◌≡◌}
use Rattle.sg_journal.specs.MemoryBytes.{memory_bytes}
use Rattle.sg_kept.specs.Disk.{IsAlive, IsUsable}
use Rattle.sg_kept.specs.declared.disk.KeptDisk.{KeptDisk}
use Rattle.crashes.specs.declared.device.LoggedFile.{LoggedFile}

-- The next command may come. A crash of this device leaves what is there: the test takes crashes from
-- the calls that it keeps.
abbrev pub IsReady : {S : Type 0} → KeptDisk S LoggedFile → Type 0
IsReady disk =
    IsAlive disk
    → IsUsable (λ device. memory_bytes device.file) (λ device left. left ≡ memory_bytes device.file) disk
