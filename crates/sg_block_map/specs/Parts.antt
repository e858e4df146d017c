-- The parts of a `BlockMap`. It is the `BlockMap` of the listed parts. Each part is a field of the
-- listed type, and there is no other field.
use Rattle.std.specs.Prelude.{◌≡◌, ℕ, ◌≤◌, [], ◌∷◌}
use Rattle.std.proofs.Common.{refl}
use Rattle.sg_store.specs.Disk.{IsWellFormed, max_capacity}
use Rattle.sg_pool.specs.Slots.{max_slots, Slots}
use Rattle.sg_table.specs.Draft.{empty_draft}
use Rattle.sg_pool.specs.contracts.pool.Pool as pool
use Rattle.sg_table.specs.Fields.{HasOnly}
use Rattle.sg_table.specs.Table.{Table}
use Rattle.sg_table.specs.contracts.draft.Draft as draft
use Rattle.sg_table.specs.contracts.table.RunTable as table
use Rattle.sg_block_map.specs.Runs.{AreRuns, chained_contents}
use Rattle.sg_block_map.specs.contracts.block_map.BlockMap.{struct}
use Rattle.sg_block_map.specs.declared.block_map.BlockMap.{BlockMap}
use denote.Struct.Field.{u64-field}

-- A capacity, a table with its counts, and a pool with its links make up a disk.
pub record FitTogether (capacity : ℕ) (table : Table) (pool : Slots) : Type 0 where
  pub capacity_fits : capacity ≤ max_capacity
  pub pool_fits : table.room ≤ max_slots
  pub well_formed : IsWellFormed capacity (chained_contents table.records pool)
  pub runs : AreRuns table.records pool table.room

-- The `BlockMap` of only these parts: its list of gathered runs is empty, and it has no other part.
abbrev pub parts : (capacity : ℕ) (table : Table) (pool : Slots) → FitTogether capacity table pool
    → BlockMap
parts capacity table pool fit = record {
  capacity = capacity;
  table = table;
  pool = pool;
  gathered = empty_draft table.room;
  capacity_fits = fit.capacity_fits;
  pool_fits = fit.pool_fits;
  gathered_empty = refl;
  well_formed = fit.well_formed;
  runs = fit.runs;
}

-- The parts of a `BlockMap` fit together,
abbrev pub fit_of : (map : BlockMap) → FitTogether map.capacity map.table map.pool
fit_of map = record {
  capacity_fits = map.capacity_fits;
  pool_fits = map.pool_fits;
  well_formed = map.well_formed;
  runs = map.runs;
}

-- and make it up.
abbrev pub IsMadeOfParts : Type 0
IsMadeOfParts = (map : BlockMap) → map ≡ parts map.capacity map.table map.pool (fit_of map)

abbrev pub HasOnlyItsParts : Type 0
HasOnlyItsParts = HasOnly struct.parts (
    u64-field  -- capacity
    ∷ table.the_field  -- table
    ∷ pool.the_field  -- pool
    ∷ draft.the_field  -- gathered
    ∷ [])
