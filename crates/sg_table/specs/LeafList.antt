-- The leaves of the table in their slots.
use Rattle.std.specs.Prelude.{◌≡◌, ◌≢◌, ℕ, ◌+◌, ◌<◌, List, [], ◌∷◌, ◌++◌, length, map}
use Rattle.std.specs.List.{All}
use Rattle.sg_table.specs.Leaves.{leaf_at}
use Rattle.sg_table.specs.Occurrences.{IsEachOnce}
use Rattle.sg_table.specs.declared.run.Run.{Run}

-- The records of each leaf, in order, and the number of leaves that there is room for.
pub record LeafRow : Type 0 where
  pub leaves : List (List Run)
  pub capacity : ℕ

-- The leaves in some of the slots, in the order of these slots.
abbrev pub leaves_in : (slots : List (List Run)) → (order : List ℕ) → List (List Run)
leaves_in slots order = map (leaf_at slots) order

-- Each slot has one place in the order, or is free.
pub record AreSlots (slots : List (List Run)) (order free : List ℕ) : Type 0 where
  pub once : IsEachOnce (length slots) (order ++ free)
  pub count : length order + length free ≡ length slots

-- The leaves in free slots have no records.
abbrev pub AreEmpty : (slots : List (List Run)) (free : List ℕ) → Type 0
AreEmpty slots free = All (λ slot. leaf_at slots slot ≡ []) free

-- ---- Cited only by private contracts

-- A slot is no longer free, or is new. Its leaf has no records, and the others are as they were.
pub record IsTaken (old new : List (List Run)) (free free' : List ℕ) (slot : ℕ) : Type 0 where
  pub empty : leaf_at new slot ≡ []
  pub others : (other : ℕ) → other < length old → other ≢ slot → leaf_at new other ≡ leaf_at old other
  pub slots : (order : List ℕ) → AreSlots old order free → AreSlots new (slot ∷ order) free'
