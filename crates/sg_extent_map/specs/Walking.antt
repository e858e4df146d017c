-- Going over the addresses of extents in a row.
use Rattle.std.specs.Prelude.{◌≡◌, ℕ, ◌+◌, ◌<◌, ◌≤◌, List, [], ◌∷◌, ◌++◌, option_to_list, drop}
use Rattle.std.specs.Prelude.{length}
use Rattle.std.specs.Prelude.{Option, Some, None, IfSome}
use Rattle.std.specs.List.{All}
use Rattle.sg_store.specs.Disk.{max_capacity}
use Rattle.sg_table.specs.Records.{single}
use Rattle.sg_table.specs.declared.run.Run.{Run}
use Rattle.sg_extent_map.specs.Extents.{singles, singles_of, IsExtent, IsPart}
use Rattle.sg_pool.specs.Rising.{end_of, AreApart}

-- An extent, if there is one, and the extents of a list from an index on.
abbrev pub ahead_of : List Run → Option Run → (at : ℕ) → List Run
ahead_of runs None at = []
ahead_of runs (Some run) at = run ∷ drop at runs

-- Extents from an address on.
pub record AreAhead (pool lba : ℕ) (runs : List Run) : Type 0 where
  pub apart : AreApart lba max_capacity runs
  pub extents : All (IsExtent pool) runs

-- The first of the extents is split at an address. The part before it is apart, and the rest is
-- ahead with the other extents.
pub record IsBegun (pool lba : ℕ) (runs : List Run) (front : Run) (ahead : List Run) : Type 0 where
  pub parts : singles runs ≡ singles_of front ++ singles ahead
  pub part : IsPart pool front
  pub before : end_of front ≤ lba
  pub fewer : length ahead ≤ length runs
  pub still_ahead : AreAhead pool lba ahead

-- The walk passes an address, and finds its record if it has one. It comes to the next address.
pub record Passes (pool lba : ℕ) (ahead : List Run) (found : Option Run) (ahead' : List Run) :
    Type 0 where
  pub parts : singles ahead ≡ option_to_list found ++ singles ahead'
  pub record_is : IfSome found (λ run. (run ≡ single lba run.first run.kind) × (run.first < pool))
  pub still_ahead : AreAhead pool (lba + 1) ahead'
  pub fewer : length ahead' ≤ length ahead
