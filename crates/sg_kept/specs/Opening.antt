-- A disk whose file was made or opened a moment ago.
use Rattle.std.specs.Prelude.{◌≡◌, ℕ, List, Some, length, true}
use Rattle.sg_changes.specs.FirstRecord.{NewDiskFields, is_new_disk}
use Rattle.sg_changes.specs.KeptFields.{KeptFields}
use Rattle.sg_changes.specs.Laws.{IsSound}
use Rattle.sg_journal.specs.Reading.{HasFound}
use Rattle.sg_journal.specs.declared.reader.Reader.{Reader}
use Rattle.sg_target.specs.Target.{disk_of}
use Rattle.sg_units.specs.PowerOn.{after_power_on}
use Rattle.sg_kept.specs.declared.disk.KeptDisk.{KeptDisk}
use Rattle.sg_kept.specs.Disk.{IsAlive, IsUsable}
use Rattle.sg_kept.specs.Kept.{powered}
use Rattle.sg_kept.specs.Opened.{filed, opened}

-- A disk that is ready for its first command. It is as it is after power on, and opening its file finds
-- it.
pub record HasStarted {S D : Type 0} (seen : D → List ℕ) (may_leave : D → List ℕ → Type 0)
    (disk : KeptDisk S D) : Type 0 where
  pub alive : IsAlive disk
  pub usable : IsUsable seen may_leave disk
  pub opened : opened (seen disk.journal.device) ≡ Some (disk_of disk.target)
  pub powered : powered (disk_of disk.target) ≡ disk_of disk.target

-- ---- Cited only by private contracts

-- What a new disk of the same size, pool and identity is made as.
abbrev pub new_disk_of : KeptFields → NewDiskFields
new_disk_of kept = record {
  capacity = kept.disk.capacity;
  pool = kept.disk.pool;
  identity = kept.identity;
}

-- What records may leave of a new disk.
pub record IsSteady (kept : KeptFields) : Type 0 where
  pub new : is_new_disk (new_disk_of kept) ≡ true
  pub sound : IsSound kept
  pub reservations : after_power_on kept.reservations ≡ kept.reservations

-- The batches that a reader found so far are so many, and leave this.
pub record HasRead {F D : Type 0} (taken : F → List ℕ) (left : F → ℕ) (reader : Reader F D)
    (count : ℕ) (kept : KeptFields) : Type 0 where
  pub batches : List (List ℕ)
  pub found : HasFound taken left reader batches
  pub number : length batches ≡ count
  pub files : filed batches ≡ Some kept
