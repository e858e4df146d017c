-- Reading and editing the table in the order of addresses.
use Rattle.std.specs.Prelude.{◌≡◌, ℕ, ◌+◌, ◌-◌, ◌<◌, ◌≤◌, List, length}
use Rattle.std.specs.Prelude.{Some}
use Rattle.std.specs.List.{All, splice}
use Rattle.sg_store.specs.Disk.{Contents, max_capacity, used_at}
use Rattle.sg_pool.specs.Slots.{max_slots, Slots}
use Rattle.sg_store.specs.Meter.{max_count}
use Rattle.sg_plain_map.specs.PlainCost.{plain_least, plain_price}
use Rattle.sg_table.specs.Records.{HaveSlots, IsLowerBound, IsNext, IsSorted, run_at}
use Rattle.sg_pool.specs.MappedRecords.{contents_of}
use Rattle.sg_pool.specs.MappedRecords.{IsConsistent}
use Rattle.sg_table.specs.Table.{Table, visited}
use Rattle.sg_table.specs.Draft.{Drafted}
use Rattle.sg_table.specs.declared.run.Kind.{Kind}
use Rattle.sg_table.specs.declared.run.Run.{Run}
use Rattle.sg_table.specs.declared.cursor.Cursor.{Cursor}

-- The contents of a disk with this table and these slots.
abbrev pub stored : Table → Slots → Contents
stored table slots = contents_of table.records slots.blocks

-- A record has one address. In a list each record has one address.
abbrev pub IsSingle : Run → Type 0
IsSingle run = run.count ≡ 1

abbrev pub AreSingle : List Run → Type 0
AreSingle records = All IsSingle records

-- ---- Cited only by private contracts

-- The cursor is at the first record that is not before the address. If there is such a record, it
-- was visited.
pub record IsAt (records : List Run) (cursor : Cursor) (lba : ℕ) : Type 0 where
  pub index : IsLowerBound records cursor.index lba
  pub next : IsNext records cursor.index cursor.next

-- A call can go over a range. The range begins at the index `from` of the table, and it lies on the
-- largest disk. Each record has one address. Table and pool are consistent and no larger than
-- allowed, and the visits can be counted.
pub record IsReady (table : Table) (slots : Slots) (from lba count : ℕ) : Type 0 where
  pub index : IsLowerBound table.records from lba
  pub range : lba + count ≤ max_capacity
  pub single : AreSingle table.records
  pub consistent : IsConsistent table.records slots.blocks slots.free table.room
  pub table_size : table.room ≤ max_slots
  pub headroom : table.visits ≤ max_count

-- The blocks of a table can be read: it is sorted, each record has a slot, and there are no more
-- records than allowed.
pub record IsReadable (records : List Run) (slots : Slots) : Type 0 where
  pub sorted : IsSorted records
  pub have_slots : HaveSlots records (length slots.blocks)
  pub table_size : length records ≤ max_slots

-- The table has other records over the pool, each of one address. The call moved no more than
-- `most_moves` records, and it counted visits.
pub record ChangesRecords (most_moves : ℕ) (before after : Table) (slots : Slots) : Type 0 where
  pub single : AreSingle after.records
  pub consistent : IsConsistent after.records slots.blocks slots.free after.room
  pub table : after ≡ record (visited before (after.total - before.total)) {
    records = after.records;
    moved = after.moved;
  }
  pub moves : after.moved ≤ before.moved + most_moves

-- The visits to the records of a range lie between the bounds.
pub record VisitsRange (contents : Contents) (lba count : ℕ) (before after : Table) : Type 0 where
  pub least : before.total + plain_least contents lba count ≤ after.total
  pub price : after.total ≤ before.total + plain_price contents lba count

-- The table with the drafted records in place of the records up to the cursor.
abbrev pub edited : List Run → Drafted → Cursor → List Run
edited records draft cursor = splice records draft.from cursor.index draft.records

-- The contents of a disk with the edited table and these slots.
abbrev pub edited_contents : Table → Slots → Drafted → Cursor → Contents
edited_contents table slots draft cursor = contents_of (edited table.records draft cursor) slots.blocks

-- The edited table has records of one address, and it and the slots are consistent. The next record
-- to be drafted has the address or one past it.
pub record IsEditing (records : List Run) (room : ℕ) (slots : Slots) (draft : Drafted) (cursor : Cursor)
    (lba : ℕ) : Type 0 where
  pub single : AreSingle (edited records draft cursor)
  pub consistent : IsConsistent (edited records draft cursor) slots.blocks slots.free room
  pub within : (draft.from ≤ cursor.index) × (cursor.index ≤ length records)
  pub next : IsNext records cursor.index cursor.next
  pub index : IsLowerBound (edited records draft cursor) (draft.from + length draft.records) lba

-- There is room for one more record and one more block, unless the address has one, and the table is no
-- larger than allowed.
pub record HasRoom (table : Table) (slots : Slots) (draft : Drafted) (cursor : Cursor) (lba : ℕ) :
    Type 0 where
  pub draft_room : length draft.records < draft.room
  pub free : 0 < length slots.free + used_at (edited_contents table slots draft cursor) lba
  pub table_size : length table.records ≤ max_slots

-- One step passes an address and drafts its record with a kind. If the address has a record, the
-- cursor goes past it; otherwise the step takes a slot. A record that has the kind already stays as
-- it is.
pub record Drafts (records : List Run) (lba used : ℕ) (kind : Kind) (cursor cursor' : Cursor)
    (slots slots' : Slots) (draft draft' : Drafted) : Type 0 where
  pub index : cursor'.index ≡ cursor.index + used
  pub free : length slots'.free + 1 + cursor.index ≡ length slots.free + cursor'.index
  pub from : draft'.from ≡ draft.from
  pub drafted : length draft'.records ≡ length draft.records + 1
  pub room : draft'.room ≡ draft.room
  pub same : (run : Run) → run_at cursor.next lba ≡ Some run → run.kind ≡ kind
      → edited records draft' cursor' ≡ edited records draft cursor
