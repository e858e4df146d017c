-- Writing a range: its addresses get slots and blocks one by one, and its extents are replaced.
use Rattle.std.specs.Prelude.{◌≡◌, ℕ, ◌+◌, ◌-◌, ◌<◌, ◌≤◌, List, ◌∷◌, ◌++◌, length, Option, Some}
use Rattle.std.specs.Prelude.{None}
use Rattle.std.specs.List.{range_with_len}
use Rattle.sg_store.specs.Disk.{Mapping, max_capacity, max_pool}
use Rattle.sg_pool.specs.MappedRecords.{filled_slot, IsConsistent}
use Rattle.sg_pool.specs.Slots.{UnlinkedSlots}
use Rattle.sg_table.specs.Draft.{Drafted}
use Rattle.sg_table.specs.Occurrences.{occurrences}
use Rattle.sg_table.specs.Table.{Table}
use Rattle.sg_table.specs.declared.run.Run.{Run}
use Rattle.sg_extent_map.specs.Extents.{singles, singles_of, part_of, AreExtents}
use Rattle.sg_pool.specs.Rising.{AreBetween}
use Rattle.sg_extent_map.specs.Extents.{IsExtent}
use Rattle.sg_extent_map.specs.Drafting.{drafted, AreDrafted, IsMaximalDraft}
use Rattle.sg_extent_map.specs.Gathering.{AreGathered}

-- An address that has a record keeps its slot. Any other address takes a free slot.
abbrev pub TakesSlot : Option Run → (old new : UnlinkedSlots) → (slot : ℕ) → Type 0
TakesSlot None old new slot = old.free ≡ slot ∷ new.free
TakesSlot (Some run) old new slot = (slot ≡ run.first) × (new.free ≡ old.free)

-- An address takes or keeps a slot, and its block is put there.
pub record PutsBlock (found : Option Run) (old new : UnlinkedSlots) (mapping : Mapping) (slot : ℕ) : Type 0
  where
    pub takes : TakesSlot found old new slot
    pub pool : new ≡ record old {
      blocks = filled_slot old.blocks slot mapping;
      free = new.free;
    }

-- The single addresses before an address, and from it on. Together they are the table to be. The
-- pool has their slots.
pub record IsWriting (before rest : List Run) (slots : UnlinkedSlots) (room lba : ℕ) : Type 0 where
  pub consistent : IsConsistent (before ++ rest) slots.blocks slots.free room
  pub low : AreBetween 0 lba before
  pub high : AreBetween lba max_capacity rest

-- A table of extents over a pool, no larger than allowed, with the extents near a range gathered.
pub record IsReady (table : Table) (slots : UnlinkedSlots) (gathered : Drafted) (low high : ℕ) : Type 0
  where
    pub extents : AreExtents table.records slots table.room
    pub near : AreGathered table.records gathered low high
    pub table_size : table.room ≤ max_pool

-- The table has other extents over the pool, and no more than `most_moves` records were moved.
pub record ChangesExtents (most_moves : ℕ) (before after : Table) (slots : UnlinkedSlots) : Type 0 where
  pub extents : AreExtents after.records slots after.room
  pub table : after ≡ record before { records = after.records; moved = after.moved }
  pub moves : after.moved ≤ before.moved + most_moves

-- ---- Unmapping

-- `count` slots in a row are free, too, each once.
pub record GivesSlots (first count : ℕ) (old new : UnlinkedSlots) : Type 0 where
  pub each : (slot : ℕ) → occurrences slot new.free
      ≡ occurrences slot (range_with_len first count) + occurrences slot old.free
  pub count_is : length new.free ≡ count + length old.free
  pub pool : new ≡ record old { free = new.free }

-- No slot of an extent is free.
abbrev pub HasOwnSlots : (free : List ℕ) → Run → Type 0
HasOwnSlots free run = (slot : ℕ) → run.first ≤ slot → slot < run.first + run.count
    → occurrences slot free ≡ 0

-- An extent loses the addresses of a range: its addresses before the range and after it are
-- drafted, and the slots of the others are given back.
pub record IsCut (low high : ℕ) (run : Run) (draft draft' : Drafted) (done done' : Run)
    (old new : UnlinkedSlots) : Type 0 where
  pub before : ℕ
  pub inside : ℕ
  pub fits : before + inside ≤ run.count
  pub front : 0 < before → run.start + before ≤ low
  pub gone : 0 < inside → (low ≤ run.start + before) × (run.start + (before + inside) ≤ high)
  pub back : before + inside < run.count → high ≤ run.start + (before + inside)
  pub addresses : singles (drafted draft' done') ≡ singles (drafted draft done)
      ++ (singles_of (part_of run 0 before)
      ++ singles_of (part_of run (before + inside) (run.count - (before + inside))))
  pub extents : (pool : ℕ) → AreDrafted pool draft done → IsExtent pool run
      → AreDrafted pool draft' done'
  pub maximal : IsMaximalDraft draft done → IsMaximalDraft draft' done'
  pub only : draft' ≡ record draft { records = draft'.records }
  pub longer : length draft'.records ≤ length draft.records + 2
  pub gives : GivesSlots (run.first + before) inside old new
