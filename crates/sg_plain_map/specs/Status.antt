-- The records of addresses in a row, and the gaps between them.
use Rattle.std.specs.Prelude.{◌≡◌, ℕ, ◌+◌, ◌<◌, ◌≤◌, List, length, slice_index_or}
use Rattle.std.specs.Prelude.{Option, Some, None, if◌then◌else◌}
use Rattle.sg_table.specs.Records.{start_of, IsSorted, same_kind}
use Rattle.sg_table.specs.declared.run.Kind.{Kind}
use Rattle.sg_table.specs.declared.run.Run.{Run}
use Rattle.sg_store.specs.Disk.{max_capacity}
use Rattle.sg_pool.specs.Slots.{max_slots}

-- A sorted table of a disk. No record lies past the end of the disk. Both are no larger than
-- allowed.
pub record IsTableOf (capacity : ℕ) (records : List Run) : Type 0 where
  pub sorted : IsSorted records
  pub within : (i : ℕ) → i < length records → start_of records i < capacity
  pub table_size : length records ≤ max_slots
  pub capacity_fits : capacity ≤ max_capacity

-- The record, if it has a kind.
abbrev pub of_kind : Kind → Option Run → Option Run
of_kind kind None = None
of_kind kind (Some run) = if same_kind run.kind kind then Some run else None

-- The records from one index to another have the addresses from one on, without a gap, and each has
-- the kind.
abbrev pub AreInRow : List Run → (from to lba : ℕ) → Kind → Type 0
AreInRow records from to lba kind = (i : ℕ) → from ≤ i → i < to
    → (run : Run) × (slice_index_or records i run ≡ run) × (run.start + from ≡ lba + i)
    × (run.kind ≡ kind)
