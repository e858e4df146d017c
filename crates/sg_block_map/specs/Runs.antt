-- Runs of addresses of one kind over chains of slots, and their single addresses.
use Rattle.std.specs.Prelude.{◌≡◌, ℕ, ◌+◌, ◌<◌, ◌≤◌, zero, suc, List, [], ◌∷◌, ◌++◌, slice_index}
use Rattle.std.specs.Prelude.{length, if◌then◌else◌}
use Rattle.std.specs.List.{sum_by}
use Rattle.sg_pool.specs.Chains.{IsChain}
use Rattle.sg_store.specs.Disk.{Contents, IsWellFormed, max_capacity}
use Rattle.sg_table.specs.Records.{single, same_kind}
use Rattle.sg_pool.specs.Rising.{end_of}
use Rattle.sg_pool.specs.MappedRecords.{contents_of}
use Rattle.sg_pool.specs.Slots.{Slots}
use Rattle.sg_pool.specs.MappedRecords.{IsConsistent}
use Rattle.sg_table.specs.declared.run.Kind.{Kind}
use Rattle.sg_table.specs.declared.run.Run.{Run}
use Rattle.sg_block_map.specs.MaximalRuns.{AddressRun, run_from}

-- The addresses of a run, without its slots.
abbrev pub address_run : Run → AddressRun
address_run run = run_from run.start run.count run.kind

-- `count` addresses of a kind from one on, each with its slot, in the chain from a slot on.
unfoldable pub singles : (next : List ℕ) → (start first count : ℕ) → Kind → List Run
singles next start first zero kind = []
singles next start first (suc count) kind =
    single start first kind ∷ singles next (start + 1) (slice_index next first) count kind

-- The addresses of a run, each with the slot at its place of the chain.
abbrev pub singles_of : (next : List ℕ) → Run → List Run
singles_of next run = singles next run.start run.first run.count run.kind

-- The addresses of runs, each with its slot.
unfoldable pub expanded : (next : List ℕ) → List Run → List Run
expanded next [] = []
expanded next (run ∷ runs) = singles_of next run ++ expanded next runs

-- The slots of each run are a chain, and the run has the first and the last slot of the chain.
abbrev pub AreChained : (next : List ℕ) → List Run → Type 0
AreChained next [] = Unit
AreChained next (run ∷ runs) = IsChain next run.first run.last run.count × AreChained next runs

-- The first address where a run of each kind may begin.
abbrev pub Bound : Type 0
Bound = Kind → ℕ

-- A run of either kind may begin at an address.
abbrev pub any_from : ℕ → Bound
any_from lba kind = lba

-- A run of the other kind may begin right after a run. A run of the same kind would be a part of
-- it, so there is an address between the two.
abbrev pub behind : Run → Bound
behind run kind = if same_kind kind run.kind then end_of run + 1 else end_of run

-- The runs rise between two bounds. None is empty, and none could be joined to the next.
abbrev pub AreMaximalIn : (low high : Bound) → List Run → Type 0
AreMaximalIn low high [] = (kind : Kind) → low kind ≤ high kind
AreMaximalIn low high (run ∷ runs) =
    (low run.kind ≤ run.start) × (0 < run.count) × AreMaximalIn (behind run) high runs

-- They rise from one address and below another.
abbrev pub AreMaximal : (low high : ℕ) → List Run → Type 0
AreMaximal low high runs = AreMaximalIn (any_from low) (any_from high) runs

-- The contents of a disk with these runs and slots: the contents of their single addresses.
abbrev pub chained_contents : List Run → Slots → Contents
chained_contents records slots = contents_of (expanded slots.next records) slots.blocks

-- The addresses of the runs are on a disk, and their data is whole blocks.
abbrev pub AreOnDisk : (capacity : ℕ) → List Run → Slots → Type 0
AreOnDisk capacity records slots = IsWellFormed capacity (chained_contents records slots)

-- Maximal runs over the slots of a pool: each slot has one address or is free.
pub record AreRuns (records : List Run) (slots : Slots) (room : ℕ) : Type 0 where
  pub maximal : AreMaximal 0 (max_capacity + 1) records
  pub chained : AreChained slots.next records
  pub consistent : IsConsistent (expanded slots.next records) slots.blocks slots.free room
  pub links : length slots.next ≡ room

-- ---- Cited only by private contracts

-- The bound of the runs before a run of a kind that begins at an address. Runs of the same kind do
-- not reach the address.
abbrev pub begins : Kind → ℕ → Bound
begins kind lba other = if same_kind other kind then lba else lba + 1

-- The number of addresses of the runs.
abbrev pub blocks_of : List Run → ℕ
blocks_of runs = sum_by (λ (run : Run). run.count) runs
