-- A run that takes up others of its kind.
use Rattle.std.specs.Prelude.{◌≡◌, ℕ, ◌+◌, ◌<◌, ◌≤◌, List, ◌∷◌, ◌++◌, length, slice_set}
use Rattle.std.specs.Prelude.{if◌then◌else◌, ◌==◌, Bool, true, false, Option, Some, None}
use Rattle.std.specs.FinMap.{insert}
use Rattle.sg_store.specs.Disk.{Mapping, max_capacity, remapped, used_among}
use Rattle.sg_pool.specs.Slots.{max_slots, Slots}
use Rattle.sg_store.specs.Meter.{max_count}
use Rattle.sg_pool.specs.Chains.{IsChain}
use Rattle.sg_pool.specs.MappedRecords.{slot_numbers}
use Rattle.sg_pool.specs.Content.{HasMappings}
use Rattle.sg_pool.specs.declared.content.Content.{Content}
use Rattle.sg_pool.specs.MappedRecords.{IsConsistent}
use Rattle.sg_table.specs.Draft.{Drafted}
use Rattle.sg_table.specs.Leaves.{move_bound}
use Rattle.sg_table.specs.Table.{Table}
use Rattle.sg_table.specs.Records.{same_kind}
use Rattle.sg_table.specs.declared.run.Kind.{Kind}
use Rattle.sg_table.specs.declared.run.Run.{Run}
use Rattle.sg_block_map.specs.Gathering.{AreGathered, AreNear}
use Rattle.sg_block_map.specs.Metering.{FollowsLinks}
use Rattle.sg_block_map.specs.State.{Keeps}
use Rattle.sg_block_map.specs.Runs.{expanded, AreChained, AreMaximal, AreRuns}
use Rattle.sg_pool.specs.Rising.{end_of}
use Rattle.sg_block_map.specs.Runs.{chained_contents, any_from, begins, blocks_of, AreMaximalIn}

-- Two runs as one. The first may have no address yet.
abbrev pub joined : Run → Run → Run
joined done other = record {
  start = done.start;
  count = done.count + other.count;
  first = if done.count == 0 then other.first else done.first;
  last = other.last;
  kind = done.kind;
}

-- The links, with a link from the last slot of a run to another slot if the run has an address.
abbrev pub linked : (next : List ℕ) → Run → (to : ℕ) → List ℕ
linked next done to = if done.count == 0 then next else slice_set next done.last to

-- The runs before a range, the run that takes up the range up to an address, and the runs from
-- there on. Together they are the table to be. The pool has their slots.
pub record IsWriting (before : List Run) (done : Run) (rest : List Run) (slots : Slots) (lba : ℕ) :
    Type 0 where
  pub consistent : IsConsistent (expanded slots.next (before ++ done ∷ rest)) slots.blocks
      slots.free
      (length slots.next)
  pub maximal_before : AreMaximalIn (any_from 0) (begins done.kind done.start) before
  pub ends : end_of done ≡ lba
  pub after : AreMaximal lba (max_capacity + 1) rest
  pub chained_before : AreChained slots.next before
  pub chained_after : AreChained slots.next rest
  pub front : 0 < done.count → IsChain slots.next done.first done.last done.count

-- Each address that has a slot keeps it.
abbrev pub KeepSlots : (next : List ℕ) → List Run → (next' : List ℕ) → List Run → Type 0
KeepSlots next runs next' runs' =
    Keeps (slot_numbers (expanded next runs)) (slot_numbers (expanded next' runs'))

-- An address was put, whatever runs are before and after. The run has come to the next address, and
-- the contents have the mapping. Each address that had a slot keeps it.
pub record IsPut (before : List Run) (done done' : Run) (rest rest' : List Run) (old new : Slots)
    (lba : ℕ) (mapping : Mapping) : Type 0 where
  pub writing : IsWriting before done' rest' new (lba + 1)
  pub contents : chained_contents (before ++ done' ∷ rest') new
      ≡ insert (chained_contents (before ++ done ∷ rest) old) lba mapping
  pub keeps : KeepSlots old.next (before ++ done ∷ rest) new.next (before ++ done' ∷ rest')

abbrev pub PutsAddress : (done done' : Run) → (ahead ahead' : List Run) → (old new : Slots)
    → (lba : ℕ) → Mapping → Type 0
PutsAddress done done' ahead ahead' old new lba mapping = (before after : List Run)
    → IsWriting before done (ahead ++ after) old lba
    → AreMaximal (lba + 1) (max_capacity + 1) after
    → IsPut before done done' (ahead ++ after) (ahead' ++ after) old new lba mapping

-- The run that takes up the range has one more address of its kind, and the runs ahead are as near
-- as before.
pub record GoesOn (done done' : Run) (ahead ahead' : List Run) (old new : Slots) (lba : ℕ) : Type 0
  where
    pub start : done'.start ≡ done.start
    pub count : done'.count ≡ done.count + 1
    pub kind : done'.kind ≡ done.kind
    pub near : (high : ℕ) → lba < high → AreNear 0 high ahead → AreNear 0 high ahead'
    pub slots : length new.next ≡ length old.next

-- A table of runs over a pool, no larger than allowed, with the runs near a range gathered. The
-- links of the gathered runs can be counted.
pub record IsReadyFor (table : Table) (slots : Slots) (gathered : Drafted) (low high : ℕ) : Type 0
  where
    pub runs : AreRuns table.records slots table.room
    pub gathered_runs : AreGathered table.records gathered low high (max_capacity + 1)
    pub table_size : table.room ≤ max_slots
    pub headroom : slots.links ≤ max_count

-- The table has other runs over the pool, and no more than `most_moves` records were moved.
pub record ChangesRuns (most_moves : ℕ) (before after : Table) (slots : Slots) : Type 0 where
  pub runs : AreRuns after.records slots after.room
  pub table : after ≡ record before { records = after.records; moved = after.moved }
  pub moves : after.moved ≤ before.moved + most_moves

-- A call can give a range its new content. The range is not empty, and the runs near it were
-- gathered. There are free slots for its addresses that have none.
pub record CanRemap (table : Table) (slots : Slots) (gathered : Drafted) (lba count : ℕ)
    (content : Content) : Type 0 where
  pub ready : IsReadyFor table slots gathered lba (lba + count)
  pub range : (0 < count) × (lba + count ≤ max_capacity)
  pub whole : HasMappings content count
  pub free : count ≤ length slots.free
      + used_among (chained_contents table.records slots) lba count

-- A range is remapped, and each address that has a slot keeps it. The call follows at most as many
-- links as the gathered runs have blocks.
pub record RemapsRange (before after : Table) (old new : Slots) (gathered : Drafted) (lba count : ℕ)
    (mapping : ℕ → Mapping) : Type 0 where
  pub contents : chained_contents after.records new
      ≡ remapped (chained_contents before.records old) lba count mapping
  pub keeps : KeepSlots old.next before.records new.next after.records
  pub table : ChangesRuns (move_bound + 3) before after new
  pub links : FollowsLinks (blocks_of gathered.records) old new

-- A run of a kind that is to begin at an address, and has none yet.
abbrev pub no_run : (lba : ℕ) → Kind → Run
no_run lba kind = record { start = lba; count = 0; first = 0; last = 0; kind = kind }

-- The range is joined to the part of a run before it that is of its kind. A part of the other kind
-- is kept apart.
abbrev pub begun_by : (alike : Bool) → Kind → (front : Run) → (lba : ℕ) → Option Run × Run
begun_by true kind front lba = (None, front)
begun_by false kind front lba = (Some front, no_run lba kind)

-- The part that is kept before a range, and the run that is to take up the range.
abbrev pub begun : Kind → (front : Option Run) → (lba : ℕ) → Option Run × Run
begun kind None lba = (None, no_run lba kind)
begun kind (Some front) lba = begun_by (same_kind front.kind kind) kind front lba

-- The run after a range is joined if it is of its kind. Otherwise it is kept apart.
abbrev pub IsFinishedBy : (alike : Bool) → (old new : Slots) → (done run result : Run)
    → (back : Option Run) → Type 0
IsFinishedBy true old new done run result back = (result ≡ joined done run) × (back ≡ None)
    × (new ≡ record old { next = linked old.next done run.first })
IsFinishedBy false old new done run result back =
    (result ≡ done) × (back ≡ Some run) × (new ≡ old)

-- The same for the run ahead, if there is one.
abbrev pub IsFinished : (old new : Slots) → (done : Run) → Option Run → Run → (back : Option Run)
    → Type 0
IsFinished old new done None result back = (result ≡ done) × (back ≡ None) × (new ≡ old)
IsFinished old new done (Some run) result back =
    IsFinishedBy (same_kind run.kind done.kind) old new done run result back
