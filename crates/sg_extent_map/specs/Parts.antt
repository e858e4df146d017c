-- The parts of an `ExtentMap`. It is the `ExtentMap` of the listed parts. Each part is a field of
-- the listed type, and there is no other field.
use Rattle.std.specs.Prelude.{◌≡◌, ℕ, ◌≤◌, [], ◌∷◌}
use Rattle.std.proofs.Common.{refl}
use Rattle.sg_store.specs.Disk.{IsWellFormed, max_capacity, max_pool}
use Rattle.sg_table.specs.Draft.{empty_draft}
use Rattle.sg_pool.specs.Slots.{UnlinkedSlots}
use Rattle.sg_pool.specs.contracts.unlinked_pool.UnlinkedPool as pool
use Rattle.sg_table.specs.Fields.{HasOnly}
use Rattle.sg_table.specs.Table.{Table}
use Rattle.sg_table.specs.contracts.draft.Draft as draft
use Rattle.sg_table.specs.contracts.table.RunTable as table
use Rattle.sg_extent_map.specs.Extents.{AreExtents, stored}
use Rattle.sg_extent_map.specs.contracts.extent_map.ExtentMap.{struct}
use Rattle.sg_extent_map.specs.declared.extent_map.ExtentMap.{ExtentMap}
use denote.Struct.Field.{u64-field}

-- A capacity, a table with its counts, and a pool make up a disk.
pub record FitTogether (capacity : ℕ) (table : Table) (pool : UnlinkedSlots) : Type 0 where
  pub capacity_fits : capacity ≤ max_capacity
  pub pool_fits : table.room ≤ max_pool
  pub well_formed : IsWellFormed capacity (stored table pool)
  pub extents : AreExtents table.records pool table.room

-- The `ExtentMap` of only these parts: its lists of gathered and drafted extents are empty, and it
-- has no other part.
abbrev pub parts : (capacity : ℕ) (table : Table) (pool : UnlinkedSlots) → FitTogether capacity table pool
    → ExtentMap
parts capacity table pool fit = record {
  capacity = capacity;
  table = table;
  pool = pool;
  gathered = empty_draft table.room;
  draft = empty_draft table.room;
  capacity_fits = fit.capacity_fits;
  pool_fits = fit.pool_fits;
  gathered_empty = refl;
  draft_empty = refl;
  well_formed = fit.well_formed;
  extents = fit.extents;
}

-- The parts of an `ExtentMap` fit together,
abbrev pub fit_of : (map : ExtentMap) → FitTogether map.capacity map.table map.pool
fit_of map = record {
  capacity_fits = map.capacity_fits;
  pool_fits = map.pool_fits;
  well_formed = map.well_formed;
  extents = map.extents;
}

-- and make it up.
abbrev pub IsMadeOfParts : Type 0
IsMadeOfParts = (map : ExtentMap) → map ≡ parts map.capacity map.table map.pool (fit_of map)

abbrev pub HasOnlyItsParts : Type 0
HasOnlyItsParts = HasOnly struct.parts (
    u64-field  -- capacity
    ∷ table.the_field  -- table
    ∷ pool.the_field  -- pool
    ∷ draft.the_field  -- gathered
    ∷ draft.the_field  -- draft
    ∷ [])
