-- Going over the addresses of runs in a row.
use Rattle.std.specs.Prelude.{◌≡◌, ℕ, ◌+◌, ◌≤◌, List, [], ◌∷◌, ◌++◌, option_to_list, drop, length}
use Rattle.std.specs.Prelude.{Option, Some, None, if◌then◌else◌, ◌==◌}
use Rattle.std.specs.FinMap.{get}
use Rattle.sg_pool.specs.Chains.{AreBelow}
use Rattle.sg_pool.specs.Slots.{Slots}
use Rattle.sg_table.specs.Records.{slots_of}
use Rattle.sg_table.specs.declared.run.Run.{Run}
use Rattle.sg_store.specs.Disk.{max_capacity}
use Rattle.sg_block_map.specs.Runs.{expanded, chained_contents, AreChained}
use Rattle.sg_pool.specs.Rising.{AreApart}
use Rattle.sg_block_map.specs.Splitting.{rest_of, IsSplit}

-- A run, if there is one, and the runs of a list from an index on.
abbrev pub ahead_of : List Run → Option Run → (at : ℕ) → List Run
ahead_of runs None at = []
ahead_of runs (Some run) at = run ∷ drop at runs

-- The rest of a run and more runs, after the walk passes the first address.
abbrev pub passed : (next : List ℕ) → Run → List Run → List Run
passed next run more = if run.count == 1 then more else rest_of next run 1 ∷ more

-- Runs from an address on, over chains of slots that are below a count.
pub record AreAhead (next : List ℕ) (count lba : ℕ) (runs : List Run) : Type 0 where
  pub apart : AreApart lba max_capacity runs
  pub chained : AreChained next runs
  pub below : AreBelow count (slots_of (expanded next runs))

-- The walk passes an address: the runs from the next address on are ahead, with the blocks that
-- they had.
pub record GoesPast (slots : Slots) (ahead ahead' : List Run) (lba : ℕ) : Type 0 where
  pub still_ahead : AreAhead slots.next (length slots.next) (lba + 1) ahead'
  pub later : (address : ℕ) → lba + 1 ≤ address
      → get (chained_contents ahead' slots) address ≡ get (chained_contents ahead slots) address

-- The first of the runs is split at an address: the part before it is apart, and the rest is ahead
-- with the other runs.
abbrev pub IsWalkFrom : (next : List ℕ) → List Run → (lba : ℕ) → (front : Option Run)
    → (more : List Run) → Type 0
IsWalkFrom next [] lba front more = (front ≡ None) × (more ≡ [])
IsWalkFrom next (run ∷ runs) lba front more =
    (rest : Option Run) × IsSplit next run lba front rest × (more ≡ option_to_list rest ++ runs)
