-- Extents: addresses in a row over slots in a row, and their single addresses.
use Rattle.std.specs.Prelude.{◌≡◌, ℕ, ◌+◌, ◌-◌, ◌<◌, ◌≤◌, zero, suc, List, [], ◌∷◌, ◌++◌}
use Rattle.std.specs.Prelude.{Bool, false, ◌&&◌, ◌==◌}
use Rattle.std.specs.List.{All}
use Rattle.sg_store.specs.Disk.{Contents, max_capacity}
use Rattle.sg_table.specs.Records.{single, same_kind}
use Rattle.sg_table.specs.Table.{Table}
use Rattle.sg_table.specs.declared.run.Kind.{Kind}
use Rattle.sg_table.specs.declared.run.Run.{Run}
use Rattle.sg_pool.specs.Rising.{end_of, AreApart}
use Rattle.sg_pool.specs.MappedRecords.{contents_of, IsConsistent}
use Rattle.sg_pool.specs.Slots.{UnlinkedSlots}

-- `count` addresses of a kind from one on, each with its slot. The slots are in a row, too.
unfoldable pub singles_from : (start first count : ℕ) → Kind → List Run
singles_from start first zero kind = []
singles_from start first (suc count) kind =
    single start first kind ∷ singles_from (start + 1) (first + 1) count kind

-- The addresses of an extent, each with its slot.
abbrev pub singles_of : Run → List Run
singles_of run = singles_from run.start run.first run.count run.kind

-- The addresses of extents, each with its slot.
unfoldable pub singles : List Run → List Run
singles [] = []
singles (run ∷ runs) = singles_of run ++ singles runs

-- An extent has an address, and lies on the largest disk. Its slots are below `pool`, and it has
-- the first and the last of them.
pub record IsExtent (pool : ℕ) (run : Run) : Type 0 where
  pub not_empty : 0 < run.count
  pub range : run.start + run.count ≤ max_capacity
  pub slots : run.first + run.count ≤ pool
  pub last : run.last + 1 ≡ run.first + run.count

-- Whether a run goes on where another ends: in its addresses, its slots and its kind.
abbrev pub continues : (done run : Run) → Bool
continues done run = same_kind run.kind done.kind
    && (run.start == end_of done && run.first == done.first + done.count)

-- No extent goes on where the one before it ends. Such two would be one extent.
abbrev pub IsNotContinued : Run → List Run → Type 0
IsNotContinued run [] = Unit
IsNotContinued run (next ∷ runs) = continues run next ≡ false

abbrev pub AreMaximal : List Run → Type 0
AreMaximal [] = Unit
AreMaximal (run ∷ runs) = IsNotContinued run runs × AreMaximal runs

-- The contents of a disk with this table and these slots: the contents of its single addresses.
abbrev pub stored : Table → UnlinkedSlots → Contents
stored table slots = contents_of (singles table.records) slots.blocks

-- A table of extents over the slots of a pool: each slot has one address or is free.
pub record AreExtents (records : List Run) (slots : UnlinkedSlots) (room : ℕ) : Type 0 where
  pub apart : AreApart 0 max_capacity records
  pub maximal : AreMaximal records
  pub extents : All (IsExtent room) records
  pub consistent : IsConsistent (singles records) slots.blocks slots.free room

-- ---- Cited only by private contracts

-- A part of an extent: an extent, or no address.
abbrev pub IsPart : (pool : ℕ) → Run → Type 0
IsPart pool run = 0 < run.count → IsExtent pool run

-- `count` addresses of a run, after the first `skip`.
abbrev pub part_of : Run → (skip count : ℕ) → Run
part_of run skip count = record {
  start = run.start + skip;
  count = count;
  first = run.first + skip;
  last = run.first + skip + count - 1;
  kind = run.kind;
}
