-- Going over the runs of a disk from an address on, as GET LBA STATUS does.
use Rattle.std.specs.Prelude.{ℕ, ◌+◌, ◌<◌, ◌≤◌, List, length, map, nat_le}
use Rattle.std.specs.Prelude.{Option, Some, None, if◌then◌else◌}
use Rattle.std.specs.List.{count_by}
use Rattle.sg_table.specs.Records.{start_of, IsNext}
use Rattle.sg_table.specs.declared.cursor.Cursor.{Cursor}
use Rattle.sg_table.specs.declared.run.Run.{Run}
use Rattle.sg_store.specs.Disk.{max_capacity}
use Rattle.sg_pool.specs.Slots.{max_slots}
use Rattle.sg_block_map.specs.Gathering.{end_at}
use Rattle.sg_block_map.specs.MaximalRuns.{meets}
use Rattle.sg_block_map.specs.Runs.{AreMaximal, address_run}

-- The table of a disk: its runs are maximal, and each has an address. No run has more addresses
-- than the largest pool has blocks, and none lies past the end of the disk.
pub record IsRunTable (capacity : ℕ) (records : List Run) : Type 0 where
  pub maximal : AreMaximal 0 (capacity + 1) records
  pub filled : (i : ℕ) → i < length records → start_of records i < end_at records i
  pub short : (i : ℕ) → i < length records → end_at records i ≤ start_of records i + max_slots
  pub table_size : length records ≤ max_slots
  pub capacity_fits : capacity ≤ max_capacity

-- The cursor is at the first run that has the address or one past it. If there is such a run, it
-- was visited.
pub record IsOver (records : List Run) (cursor : Cursor) (lba : ℕ) : Type 0 where
  pub within : cursor.index ≤ length records
  pub next : IsNext records cursor.index cursor.next
  pub before : (i : ℕ) → i < cursor.index → end_at records i ≤ lba
  pub after : (i : ℕ) → cursor.index ≤ i → i < length records → lba < end_at records i

-- The run, if it has the address or one before it.
abbrev pub run_over : Option Run → (lba : ℕ) → Option Run
run_over None lba = None
run_over (Some run) lba = if nat_le run.start lba then Some run else None

-- Each run from one index to another has an address of the range between two others,
abbrev pub AreMet : List Run → (from to low high : ℕ) → Type 0
AreMet records from to low high = (i : ℕ) → from ≤ i → i < to
    → (low < end_at records i) × (start_of records i < high)

-- and each from an index on begins at an address or past it.
abbrev pub AreFrom : List Run → (from lba : ℕ) → Type 0
AreFrom records from lba = (i : ℕ) → from ≤ i → i < length records → lba ≤ start_of records i

-- The runs from one index to another have addresses of a range, and the runs after them have none.
-- The range is not empty.
pub record MeetsRange (records : List Run) (from to lba count : ℕ) : Type 0 where
  pub not_empty : 0 < count
  pub order : from ≤ to
  pub met : AreMet records from to lba (lba + count)
  pub rest : AreFrom records to (lba + count)

-- The number of runs that have an address in common with a range.
abbrev pub records_met : List Run → (lba count : ℕ) → ℕ
records_met records lba count = count_by (meets lba count) (map address_run records)
