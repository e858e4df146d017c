-- The maximal runs, address by address.
use Rattle.std.specs.Prelude.{◌≡◌, ℕ, ◌-◌, ◌<◌, ◌≤◌, ◌↔◌, Bool, false, true, Option, Some, None}
use Rattle.std.specs.List.{AllPairs, Contains}
use Rattle.std.specs.FinMap.{get}
use Rattle.sg_store.specs.Disk.{Contents, Mapping}
use Rattle.sg_table.specs.Records.{same_kind}
use Rattle.sg_table.specs.declared.run.Kind.{Kind}
use Rattle.sg_pool.specs.MappedRecords.{kind_of}
use Rattle.sg_block_map.specs.MaximalRuns.{AddressRun, run_end, runs}

-- Whether an address has a block of the pool and is of a kind.
abbrev pub is_kind : Kind → Option Mapping → Bool
is_kind kind None = false
is_kind kind (Some mapping) = same_kind kind (kind_of mapping)

abbrev pub has_kind : Contents → Kind → (address : ℕ) → Bool
has_kind contents kind address = is_kind kind (get contents address)

-- A run of at least one address. All its addresses are of its kind, and neither neighbour is.
pub record IsMaximalRun (contents : Contents) (run : AddressRun) : Type 0 where
  pub not_empty : 0 < run.count
  pub alike : (address : ℕ) → run.start ≤ address → address < run_end run
      → has_kind contents run.kind address ≡ true
  pub before : 0 < run.start → has_kind contents run.kind (run.start - 1) ≡ false
  pub behind : has_kind contents run.kind (run_end run) ≡ false

-- The list has exactly the runs that are maximal,
abbrev pub HasExactlyTheMaximalRuns : Type 0
HasExactlyTheMaximalRuns = (contents : Contents) (run : AddressRun)
    → Contains (runs contents) run ↔ IsMaximalRun contents run

-- and each begins at the end of the runs before it or past it: they rise, and each occurs once.
abbrev pub RunsRise : Type 0
RunsRise = (contents : Contents)
    → AllPairs (λ (run later : AddressRun). run_end run ≤ later.start) (runs contents)
