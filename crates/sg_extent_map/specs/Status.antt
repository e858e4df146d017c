-- Going over the extents of a disk from an address on, as GET LBA STATUS does.
use Rattle.std.specs.Prelude.{◌≡◌, ℕ, ◌+◌, ◌-◌, ◌<◌, ◌≤◌, List, length, nat_le, min}
use Rattle.std.specs.Prelude.{Option, Some, None, if◌then◌else◌}
use Rattle.sg_store.specs.Disk.{max_capacity, max_pool}
use Rattle.sg_store.specs.LbaStatus.{status_at}
use Rattle.sg_pool.specs.MappedRecords.{contents_of, status_of_kind}
use Rattle.sg_table.specs.Records.{IsNext, same_kind}
use Rattle.sg_table.specs.Table.{Table, visited, probed, search_bound}
use Rattle.sg_table.specs.declared.cursor.Cursor.{Cursor}
use Rattle.sg_table.specs.declared.run.Kind.{Kind}
use Rattle.sg_table.specs.declared.run.Run.{Run}
use Rattle.sg_extent_map.specs.Extents.{singles}
use Rattle.sg_pool.specs.Rising.{AreApart}
use Rattle.sg_extent_map.specs.Gathering.{end_at}

-- The table of a disk: its extents have no address in common, and none lies past the end of the
-- disk. They have no more addresses than the largest pool has blocks.
pub record IsExtentTable (capacity : ℕ) (records : List Run) : Type 0 where
  pub apart : AreApart 0 capacity records
  pub table_size : length (singles records) ≤ max_pool
  pub capacity_fits : capacity ≤ max_capacity

-- The cursor is at the first extent that has the address or one past it. If there is such an
-- extent, it was visited.
pub record IsOver (records : List Run) (cursor : Cursor) (lba : ℕ) : Type 0 where
  pub within : cursor.index ≤ length records
  pub next : IsNext records cursor.index cursor.next
  pub before : (i : ℕ) → i < cursor.index → end_at records i ≤ lba
  pub after : (i : ℕ) → cursor.index ≤ i → i < length records → lba < end_at records i

-- The extent, if it has the address or one before it.
abbrev pub run_over : Option Run → (lba : ℕ) → Option Run
run_over None lba = None
run_over (Some run) lba = if nat_le run.start lba then Some run else None

-- The extent, if it has a kind.
abbrev pub of_kind : Kind → Option Run → Option Run
of_kind kind None = None
of_kind kind (Some run) = if same_kind run.kind kind then Some run else None

-- The addresses from one to another have the status of a kind. The status does not depend on the
-- blocks.
abbrev pub AreOfKind : List Run → (from to : ℕ) → Kind → Type 0
AreOfKind records from to kind = (blocks : List (List ℕ)) (address : ℕ) →
    from ≤ address → address < to →
    status_at (contents_of (singles records) blocks) address ≡ status_of_kind kind

-- The call compares addresses in one binary search of the table. Then it visits the record at the
-- cursor, if there is one, and at most one more. It visits a record if the table has any.
pub record FindsCursor (ahead : ℕ) (before after : Table) : Type 0 where
  pub table : after
      ≡ visited (probed before (after.probes - before.probes)) (after.total - before.total)
  pub probes_rise : before.probes ≤ after.probes
  pub search : after.probes ≤ before.probes + search_bound
  pub fewest_visits : before.total + ahead ≤ after.total
  pub some_visit : before.total + min 1 (length before.records) ≤ after.total
  pub most_visits : after.total ≤ before.total + ahead + 1
