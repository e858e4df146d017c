-- The maximal runs of addresses that have data, or are anchored, and the runs that a range meets.
use Rattle.std.specs.Prelude.{ℕ, ◌+◌, List, [], ◌∷◌, Bool, nat_lt, nat_le, ◌&&◌, ◌==◌}
use Rattle.std.specs.Prelude.{if◌then◌else◌, min, max}
use Rattle.std.specs.List.{count_by, sum_by}
use Rattle.std.specs.FinMap.{entries}
use Rattle.sg_store.specs.Disk.{Contents, Mapping}
use Rattle.sg_pool.specs.MappedRecords.{kind_of}
use Rattle.sg_table.specs.Records.{same_kind}
use Rattle.sg_table.specs.declared.run.Kind.{Kind}

-- Addresses in a row that are of one kind: the first address, their number, and their kind.
pub record AddressRun : Type 0 where
  pub start : ℕ
  pub count : ℕ
  pub kind : Kind

abbrev pub run_from : (start count : ℕ) → Kind → AddressRun
run_from start count kind = record { start = start; count = count; kind = kind }

-- The address past a run.
abbrev pub run_end : AddressRun → ℕ
run_end run = run.start + run.count

-- Runs with an address before them. If the first run begins right after the address and is of its
-- kind, the address is joined to that run. Otherwise the address is a run of its own.
abbrev pub with_address : (lba : ℕ) → Kind → List AddressRun → List AddressRun
with_address lba kind [] = run_from lba 1 kind ∷ []
with_address lba kind (run ∷ runs) =
    if run.start == lba + 1 && same_kind kind run.kind
    then run_from lba (run.count + 1) kind ∷ runs else run_from lba 1 kind ∷ run ∷ runs

-- The runs of addresses that rise.
abbrev pub runs_of : List (ℕ × Mapping) → List AddressRun
runs_of [] = []
runs_of (entry ∷ more) = with_address entry.0 (kind_of entry.1) (runs_of more)

-- The maximal runs of one kind, rising.
unfoldable pub runs : Contents → List AddressRun
runs contents = runs_of (entries contents)

-- Whether a run and a range have an address in common.
abbrev pub meets : (lba count : ℕ) → AddressRun → Bool
meets lba count run = nat_lt (max run.start lba) (min (run_end run) (lba + count))

-- The number of maximal runs, of both kinds, that have an address in common with a range.
unfoldable pub meet : Contents → (lba count : ℕ) → ℕ
meet contents lba count = count_by (meets lba count) (runs contents)

-- The number of blocks of a run, if it meets a range or touches one of its ends.
abbrev pub blocks_if_near : (lba count : ℕ) → AddressRun → ℕ
blocks_if_near lba count run =
    if nat_le lba (run_end run) && nat_le run.start (lba + count) then run.count else 0

-- The number of blocks of the maximal runs that meet a range or touch one of its ends.
unfoldable pub blocks_near : Contents → (lba count : ℕ) → ℕ
blocks_near contents lba count = sum_by (blocks_if_near lba count) (runs contents)
