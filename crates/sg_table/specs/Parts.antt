-- The parts of a `RunTable`, level by level, in two ways. Two tables that agree in the listed parts
-- are the same table. Each part is a field of the listed type, down to the types of the standard
-- library, and there is no other field. So a table keeps nothing beside these parts.
use Rattle.std.specs.Prelude.{◌≡◌, ◌<◌, [], ◌∷◌}
use Rattle.arrayvec.specs.contracts.array_vec.ArrayVec as array_vec
use Rattle.sg_table.specs.Fields.{HasOnly, VariantsHaveOnly, vec_field}
use Rattle.sg_table.specs.LeafList.{AreEmpty, AreSlots}
use Rattle.sg_table.specs.Leaves.{IsSpan, first_addresses, joined, max_leaf, starts_of}
use Rattle.sg_table.specs.Records.{data_in}
use Rattle.sg_table.specs.contracts.draft.Draft.TheInside.{struct as draft}
use Rattle.sg_table.specs.contracts.ghost_number.GhostNumber as ghost_number
use Rattle.sg_table.specs.contracts.leaf.Leaf as leaf
use Rattle.sg_table.specs.contracts.leaf.Leaf.TheInside.{struct as leaf_inside}
use Rattle.sg_table.specs.contracts.leaf_list.LeafList as leaf_list
use Rattle.sg_table.specs.contracts.leaf_list.LeafList.TheInside.{struct as leaf_list_inside}
use Rattle.sg_table.specs.contracts.leaves.Leaves as leaves
use Rattle.sg_table.specs.contracts.leaves.Leaves.TheInside.{struct as leaves_inside}
use Rattle.sg_table.specs.contracts.leaves.Span as span
use Rattle.sg_table.specs.contracts.run.Kind as kind
use Rattle.sg_table.specs.contracts.run.Run as run
use Rattle.sg_table.specs.contracts.table.RunTable.TheInside.{struct as table_inside}
use Rattle.sg_table.specs.declared.draft.Draft.TheInside.{Inside as DraftInside}
use Rattle.sg_table.specs.declared.leaf.Leaf.TheInside.{Inside as LeafInside}
use Rattle.sg_table.specs.declared.leaf_list.LeafList.TheInside.{Inside as LeafListInside}
use Rattle.sg_table.specs.declared.leaf_list.LeafList.TheView.{invariant as leaf_list_invariant}
use Rattle.sg_table.specs.declared.leaves.Leaves.TheInside.{Inside as LeavesInside}
use Rattle.sg_table.specs.declared.leaves.Leaves.TheView.{invariant as leaves_invariant}
use Rattle.sg_table.specs.declared.table.RunTable.TheInside.{Inside as TableInside}
use denote.Builtin.{u32, u64, unit}
use denote.Param.{number}
use denote.Struct.Field.{u32-field, u64-field, usize-field}

-- The same leaves, room for as many records, and the same counts.
pub record IsSameTable (table other : TableInside) : Type 0 where
  pub leaves : table.leaves ≡ other.leaves
  pub room : table.room.value ≡ other.room.value
  pub visits : table.visits ≡ other.visits
  pub probes : table.probes ≡ other.probes
  pub total : table.total.value ≡ other.total.value
  pub restarts : table.restarts.value ≡ other.restarts.value

abbrev pub TableIsItsParts : Type 0
TableIsItsParts = (table other : TableInside) → IsSameTable table other → table ≡ other

abbrev pub TableHasOnlyItsParts : Type 0
TableHasOnlyItsParts = HasOnly table_inside.parts (
    leaves.the_field  -- leaves
    ∷ ghost_number.the_field  -- room
    ∷ u64-field  -- visits
    ∷ u64-field  -- probes
    ∷ ghost_number.the_field  -- total
    ∷ ghost_number.the_field  -- restarts
    ∷ [])

-- A number that only proofs read takes no memory.
abbrev pub GhostNumberHasNoField : Type 0
GhostNumberHasNoField = HasOnly ghost_number.struct.parts []

-- The same leaves in their slots, directory, span of the leaf that was found last, number of addresses
-- with data, and moves.
pub record AreSameLeaves (leaves other : LeavesInside) : Type 0 where
  pub list : leaves.leaves ≡ other.leaves
  pub starts : leaves.starts ≡ other.starts
  pub firsts : leaves.firsts ≡ other.firsts
  pub recent : leaves.recent ≡ other.recent
  pub data_count : leaves.data_count ≡ other.data_count
  pub moved : leaves.moved.value ≡ other.moved.value

abbrev pub LeavesAreTheirParts : Type 0
LeavesAreTheirParts = (leaves other : LeavesInside) → AreSameLeaves leaves other → leaves ≡ other

abbrev pub LeavesHaveOnlyTheirParts : Type 0
LeavesHaveOnlyTheirParts = HasOnly leaves_inside.parts (
    leaf_list.the_field  -- leaves
    ∷ vec_field u32  -- starts
    ∷ vec_field u64  -- firsts
    ∷ span.the_field  -- recent
    ∷ u64-field  -- data_count
    ∷ ghost_number.the_field  -- moved
    ∷ [])

abbrev pub SpanHasOnlyItsParts : Type 0
SpanHasOnlyItsParts = HasOnly span.struct.parts (
    usize-field  -- leaf
    ∷ usize-field  -- start
    ∷ usize-field  -- end
    ∷ [])

-- The directory, the span and the number follow from the records in the leaves, and only from them.
pub record FollowFromRecords (leaves : LeavesInside) : Type 0 where
  pub starts : leaves.starts.items ≡ starts_of 0 leaves.leaves.leaves
  pub firsts : leaves.firsts.items ≡ first_addresses leaves.leaves.leaves
  pub recent : leaves.recent.start < leaves.recent.end → IsSpan leaves.leaves.leaves leaves.recent
  pub data_count : leaves.data_count ≡ data_in (joined leaves.leaves.leaves)

abbrev pub DirectoryFollows : Type 0
DirectoryFollows = (leaves : LeavesInside) → leaves_invariant leaves → FollowFromRecords leaves

-- The same slots with their leaves, the same order, and the same free slots.
pub record IsSameList (list other : LeafListInside) : Type 0 where
  pub slots : list.slots ≡ other.slots
  pub order : list.order ≡ other.order
  pub free : list.free ≡ other.free

abbrev pub LeafListIsItsParts : Type 0
LeafListIsItsParts = (list other : LeafListInside) → IsSameList list other → list ≡ other

abbrev pub LeafListHasOnlyItsParts : Type 0
LeafListHasOnlyItsParts = HasOnly leaf_list_inside.parts (
    vec_field leaf.the_row  -- slots
    ∷ vec_field u32  -- order
    ∷ vec_field u32  -- free
    ∷ [])

-- Each slot belongs to one leaf of the table, or is free.
abbrev pub EachSlotHasOneLeaf : Type 0
EachSlotHasOneLeaf = (list : LeafListInside) → leaf_list_invariant list
    → AreSlots list.slots.items list.order.items list.free.items

-- A leaf in a free slot has no records.
abbrev pub FreeSlotsAreEmpty : Type 0
FreeSlotsAreEmpty = (list : LeafListInside) → leaf_list_invariant list
    → AreEmpty list.slots.items list.free.items

-- A leaf is its records.
abbrev pub LeafIsItsRecords : Type 0
LeafIsItsRecords = (leaf other : LeafInside) → leaf.records.items ≡ other.records.items
    → leaf ≡ other

-- The records are in one array in the leaf. The array has room for the most records of a leaf.
abbrev pub LeafHasOnlyItsRecords : Type 0
LeafHasOnlyItsRecords = HasOnly leaf_inside.parts (
    array_vec.the_field run.the_row (number max_leaf) unit  -- records
    ∷ [])

-- A record is four numbers and a kind. There are two kinds and no more.
pub record RunHasOnlyItsParts : Type 0 where
  pub run : HasOnly run.struct.parts (
      u64-field  -- start
      ∷ u32-field  -- count
      ∷ u32-field  -- first
      ∷ u32-field  -- last
      ∷ kind.the_field  -- kind
      ∷ [])
  pub kind : VariantsHaveOnly kind.the_parts (
      []  -- Data
      ∷ []  -- Anchored
      ∷ [])

-- The same index, records and room.
pub record IsSameDraft (draft other : DraftInside) : Type 0 where
  pub from : draft.from ≡ other.from
  pub records : draft.records ≡ other.records
  pub room : draft.room.value ≡ other.room.value

abbrev pub DraftIsItsParts : Type 0
DraftIsItsParts = (draft other : DraftInside) → IsSameDraft draft other → draft ≡ other

abbrev pub DraftHasOnlyItsParts : Type 0
DraftHasOnlyItsParts = HasOnly draft.parts (
    usize-field  -- from
    ∷ vec_field run.the_row  -- records
    ∷ ghost_number.the_field  -- room
    ∷ [])
