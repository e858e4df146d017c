-- Laws of the definitions.
use Rattle.std.specs.Prelude.{◌≡◌, ◌≤◌, ◌<◌, ◌+◌, ◌++◌, true, List, ℕ, Some}
use Rattle.std.specs.FinMap.{len}
use Rattle.std.specs.List.{flat_map, list_all}
use Rattle.sg_store.specs.Disk.{Contents, Disk, IsWellFormed, empty_disk, max_capacity}
use Rattle.sg_store.specs.LbaStatus.{descriptor_at}
use Rattle.sg_units.specs.Reservations.{IsConsistent}
use Rattle.sg_wire.specs.declared.extent.Extent.{Extent}
use Rattle.sg_wire.specs.declared.lba_status.ProvisioningStatus.{ProvisioningStatus}
use Rattle.sg_wire.specs.declared.lba_status.StatusDescriptor.{StatusDescriptor}
use Rattle.sg_changes.specs.Change.{Change, applied, applied_all}
use Rattle.sg_changes.specs.FirstRecord.{NewDiskFields, first_record, is_new_disk, new_disk_kept}
use Rattle.sg_changes.specs.Format.{IsExact}
use Rattle.sg_changes.specs.KeptFields.{KeptFields}
use Rattle.sg_changes.specs.Records.{change, is_possible, record_of}
use Rattle.sg_changes.specs.Replay.{replayed}
use Rattle.sg_changes.specs.Snapshot.{HasStatus, disk_below, kept_below, pool_blocks, run_changes}

-- A record is read as the change that it was written for, whatever follows it, and nothing else is
-- read.
abbrev pub RecordsAreExact : Type 0
RecordsAreExact = IsExact change

abbrev pub FirstRecordsAreExact : Type 0
FirstRecordsAreExact = IsExact first_record

-- Replaying the records of changes applies the changes.
pub record RecordsAreReplayed : Type 0 where
  -- all records of a batch
  pub all : (changes : List Change) (kept : KeptFields) → list_all is_possible changes ≡ true
      → replayed (flat_map record_of changes) kept ≡ applied_all kept changes
  -- one more record
  pub one_more : (bytes : List ℕ) (change : Change) (before after : KeptFields) → is_possible change ≡ true
      → replayed bytes before ≡ Some after
      → replayed (bytes ++ record_of change) before ≡ applied after change
  -- the records of one batch, and then those of another
  pub joined : (first second : List ℕ) (before after : KeptFields) → replayed first before ≡ Some after
      → replayed (first ++ second) before ≡ replayed second after

-- A disk has at most 2^40 addresses. No more of them have a block of the pool than the pool has
-- blocks. Each that has one is below the capacity, and its data is a whole block.
pub record IsSoundDisk (disk : Disk) : Type 0 where
  pub capacity : disk.capacity ≤ max_capacity
  pub pool : len disk.contents ≤ disk.pool
  pub blocks : IsWellFormed disk.capacity disk.contents

-- What is kept has a sound disk. Its registrations and reservation are consistent.
pub record IsSound (kept : KeptFields) : Type 0 where
  pub disk : IsSoundDisk kept.disk
  pub reservations : IsConsistent kept.reservations

-- It is so of a new disk, and stays so, whatever records say.
pub record KeptStaysSound : Type 0 where
  pub new : (disk : NewDiskFields) → is_new_disk disk ≡ true → IsSound (new_disk_kept disk)
  pub after_records : (bytes : List ℕ) (before after : KeptFields) → IsSound before
      → replayed bytes before ≡ Some after → IsSound after

-- A descriptor of GET LBA STATUS covers an address at least, and none past the end of the disk. All its
-- addresses have its status.
pub record Describes (contents : Contents) (capacity : ℕ) (run : StatusDescriptor) : Type 0 where
  pub some : 0 < run.count
  pub within : run.lba + run.count ≤ capacity
  pub status : HasStatus contents (record { lba = run.lba; count = run.count }) run.status

-- The changes of runs, one after another from the first address on, make a disk of a new one.
pub record RunsMakeTheDisk : Type 0 where
  -- each run is found by its descriptor
  pub found : (contents : Contents) (capacity lba : ℕ) → lba < capacity
      → Describes contents capacity (descriptor_at contents capacity lba)
  -- no run makes a new disk
  pub none : (disk : Disk) → IsSoundDisk disk
      → disk_below disk 0 ≡ empty_disk disk.capacity disk.pool
  -- the changes of one more run make the disk below its end
  pub one_more : (kept : KeptFields) (extent : Extent) (status : ProvisioningStatus)
      → IsSoundDisk kept.disk → extent.lba + extent.count ≤ kept.disk.capacity
      → HasStatus kept.disk.contents extent status
      → applied_all (kept_below kept extent.lba) (run_changes kept.disk.contents extent status)
      ≡ Some (kept_below kept (extent.lba + extent.count))
  -- and take its blocks of the pool
  pub used : (disk : Disk) (extent : Extent) (status : ProvisioningStatus)
      → extent.lba + extent.count ≤ disk.capacity → HasStatus disk.contents extent status
      → len (disk_below disk (extent.lba + extent.count)).contents
      ≡ len (disk_below disk extent.lba).contents + pool_blocks status extent.count
  -- all runs make the disk
  pub all : (disk : Disk) → disk_below disk disk.capacity ≡ disk
