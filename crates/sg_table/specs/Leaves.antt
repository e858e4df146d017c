-- The records of a table in leaves: the records of each leaf, and the number of records that move
-- if a call replaces some.
use Rattle.std.specs.Prelude.{◌≡◌, ℕ, ◌+◌, ◌-◌, ◌*◌, ◌<◌, ◌≤◌, List, [], ◌∷◌, ◌++◌, length, take, drop}
use Rattle.std.specs.Prelude.{map, slice_index_or, ◌⊎◌}
use Rattle.std.specs.List.{All}
use Rattle.sg_table.specs.Records.{start_of}
use Rattle.sg_table.specs.declared.leaves.Place.{Place}
use Rattle.sg_table.specs.declared.leaves.Span.{Span}
use Rattle.sg_table.specs.declared.run.Run.{Run}

-- The most records of a leaf, and the fewest records of a leaf that is not the only one.
abbrev pub max_leaf : ℕ
max_leaf = 255

abbrev pub min_leaf : ℕ
min_leaf = 128

-- The records of each leaf, in order; the number of leaves that there is room for; and the number
-- of moved records.
pub record LeafTable : Type 0 where
  pub leaves : List (List Run)
  pub capacity : ℕ
  pub moved : ℕ

-- The records of all leaves, in a row.
abbrev pub joined : List (List Run) → List Run
joined [] = []
joined (leaf ∷ leaves) = leaf ++ joined leaves

-- The leaf at an index.
abbrev pub leaf_at : List (List Run) → ℕ → List Run
leaf_at leaves index = slice_index_or leaves index []

-- The number of records before a leaf.
abbrev pub count_before : List (List Run) → (leaf : ℕ) → ℕ
count_before leaves leaf = length (joined (take leaf leaves))

-- The leaf has enough records.
abbrev pub IsFilled : List Run → Type 0
IsFilled leaf = min_leaf ≤ length leaf

-- The leaf has not too many records.
abbrev pub FitsLeaf : List Run → Type 0
FitsLeaf leaf = length leaf ≤ max_leaf

-- Each leaf has enough records, unless it is the only one.
abbrev pub AreBalanced : List (List Run) → Type 0
AreBalanced leaves = (length leaves ≡ 1) ⊎ All IsFilled leaves

-- The leaf is one of the table, and its records have the indexes from `start` to `end`.
pub record IsSpan (leaves : List (List Run)) (span : Span) : Type 0 where
  pub within : span.leaf < length leaves
  pub start : span.start ≡ count_before leaves span.leaf
  pub end : span.end ≡ count_before leaves (span.leaf + 1)

-- The address of the first record of each leaf, and 0 for a leaf without records.
abbrev pub first_addresses : List (List Run) → List ℕ
first_addresses leaves = map (λ leaf. start_of leaf 0) leaves

-- The index of the first record of each leaf, and the number of records, if `count` records are
-- before the leaves.
abbrev pub starts_of : (count : ℕ) → List (List Run) → List ℕ
starts_of count [] = count ∷ []
starts_of count (leaf ∷ leaves) = count ∷ starts_of (count + length leaf) leaves

-- The directory has the index of the first record of each leaf, and the number of records. There is
-- at least one leaf.
pub record IsDirectory (leaves : List (List Run)) (starts : List ℕ) : Type 0 where
  pub not_empty : 1 ≤ length leaves
  pub count : length starts ≡ length leaves + 1
  pub each : starts ≡ starts_of 0 leaves

-- The most records that move when new records replace some of them. The new records do not count.
abbrev pub move_bound : ℕ
move_bound = 9 * max_leaf

-- ---- Cited only by private contracts

-- The records of two neighbours.
abbrev pub pair_at : List (List Run) → ℕ → List Run
pair_at leaves index = leaf_at leaves index ++ leaf_at leaves (index + 1)

-- The records of three neighbours.
abbrev pub triple_at : List (List Run) → ℕ → List Run
triple_at leaves index = pair_at leaves index ++ leaf_at leaves (index + 2)

-- Each leaf except one has enough records.
pub record AreFilledBut (leaves : List (List Run)) (leaf : ℕ) : Type 0 where
  pub before : All IsFilled (take leaf leaves)
  pub after : All IsFilled (drop (leaf + 1) leaves)

-- The record at the index is in the leaf. The end of all records is in the last leaf.
pub record IsLeafOf (leaves : List (List Run)) (index leaf : ℕ) : Type 0 where
  pub within : leaf < length leaves
  pub start : count_before leaves leaf ≤ index
  pub end : index ≤ count_before leaves (leaf + 1)
  pub record_end : index < length (joined leaves) → index < count_before leaves (leaf + 1)

-- The addresses of records.
abbrev pub addresses : List Run → List ℕ
addresses records = map (λ run. run.start) records

-- The place of an index among the records of all leaves: a leaf, and an offset in it.
pub record IsPlace (leaves : List (List Run)) (index : ℕ) (place : Place) : Type 0 where
  pub leaf : place.leaf < length leaves
  pub offset : place.offset ≤ length (leaf_at leaves place.leaf)
  pub sum : count_before leaves place.leaf + place.offset ≡ index

-- Two places among the leaves. The leaf of the first place is not after the leaf of the other.
pub record ArePlaces (leaves : List (List Run)) (from to : Place) : Type 0 where
  pub in_order : from.leaf ≤ to.leaf
  pub within : to.leaf < length leaves
  pub from_offset : from.offset ≤ length (leaf_at leaves from.leaf)
  pub to_offset : to.offset ≤ length (leaf_at leaves to.leaf)

-- The records, with others in place of the records from one place to another.
abbrev pub replaced : List (List Run) → (from to : Place) → List Run → List Run
replaced leaves from to runs =
    joined (take from.leaf leaves) ++ (take from.offset (leaf_at leaves from.leaf)
    ++ (runs ++ (drop to.offset (leaf_at leaves to.leaf) ++ joined (drop (to.leaf + 1) leaves))))

-- At most `bound` records were moved, and there is room for as many leaves as before.
pub record MovesAtMost (before after : LeafTable) (bound : ℕ) : Type 0 where
  pub capacity : after.capacity ≡ before.capacity
  pub rise : before.moved ≤ after.moved
  pub moved : after.moved ≤ before.moved + bound

-- The records from a place to the end of a leaf are removed.
pub record IsCut (before after : LeafTable) (from to : Place) : Type 0 where
  pub within : from.leaf < length after.leaves
  pub filled : AreFilledBut after.leaves from.leaf
  pub front : joined (take (from.leaf + 1) after.leaves)
      ≡ joined (take from.leaf before.leaves) ++ take from.offset (leaf_at before.leaves from.leaf)
  pub behind : drop (from.leaf + 1) after.leaves ≡ drop (to.leaf + 1) before.leaves
  pub moves : MovesAtMost before after (2 * max_leaf)

-- Records were appended to a leaf, and to new leaves after it. `last` is the last of these leaves.
pub record IsAppended (before after : LeafTable) (leaf last : ℕ) (runs : List Run) : Type 0 where
  pub within : last < length after.leaves
  pub filled : AreFilledBut after.leaves last
  pub front : joined (take (last + 1) after.leaves) ≡ joined (take (leaf + 1) before.leaves) ++ runs
  pub behind : drop (last + 1) after.leaves ≡ drop (leaf + 1) before.leaves
  pub capacity : after.capacity ≡ before.capacity
  pub moves : after.moved ≡ before.moved + length runs

-- The most records that move between two neighbours.
abbrev pub level_bound : ℕ
level_bound = 6 * max_leaf

-- `count` records were put in place of others.
pub record IsSpliced (before after : LeafTable) (count : ℕ) : Type 0 where
  pub balanced : AreBalanced after.leaves
  pub moves : MovesAtMost before after (move_bound + count)

-- The first `count` of the records from an index on are moved to the end.
abbrev pub rotated_left : List Run → (from count : ℕ) → List Run
rotated_left records from count =
    take from records ++ (drop (from + count) records ++ take count (drop from records))

-- The last `count` records are moved to an index.
abbrev pub rotated_right : List Run → (from count : ℕ) → List Run
rotated_right records from count =
    take from records
    ++ (drop (length records - count) records ++ take (length records - from - count) (drop from records))
