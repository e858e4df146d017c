-- Runs that lose the addresses of a range.
use Rattle.std.specs.Prelude.{◌≡◌, ℕ, ◌+◌, ◌≤◌, List, ◌++◌, length, Option, IfSome, option_to_list}
use Rattle.sg_pool.specs.Chains.{chain, AreBelow, IsChain}
use Rattle.sg_pool.specs.Slots.{Slots, max_slots}
use Rattle.sg_table.specs.Records.{slots_of}
use Rattle.sg_table.specs.Occurrences.{occurrences}
use Rattle.sg_table.specs.declared.run.Run.{Run}
use Rattle.sg_block_map.specs.Runs.{singles_of, expanded, AreChained}
use Rattle.sg_pool.specs.Rising.{end_of}
use Rattle.sg_block_map.specs.Splitting.{IsFront}

-- No slot is in both lists, and none is twice in one list.
abbrev pub AreDistinct : (slots others : List ℕ) → Type 0
AreDistinct slots others = (slot : ℕ) → occurrences slot slots + occurrences slot others ≤ 1

-- The slots of a run are a chain of the pool's, and none of them is free.
pub record HasOwnSlots (slots : Slots) (run : Run) : Type 0 where
  pub is_chain : IsChain slots.next run.first run.last run.count
  pub below : AreBelow (length slots.next) (chain slots.next run.first run.count)
  pub distinct : AreDistinct (chain slots.next run.first run.count) slots.free
  pub fits : run.count + length slots.free ≤ max_slots

-- The links of all slots except some stay: runs over other slots are as they were.
abbrev pub StaysBut : (next next' : List ℕ) → (slots : List ℕ) → Type 0
StaysBut next next' slots = (runs : List Run) → AreDistinct (slots_of (expanded next runs)) slots
    → (expanded next' runs ≡ expanded next runs) × (AreChained next runs → AreChained next' runs)

-- A run that has lost the addresses of a range: their slots are free, and it keeps the parts before
-- and after them.
pub record IsCut (old new : Slots) (kept kept' : List Run) (run : Run) (low high : ℕ) : Type 0 where
  pub front : Option Run
  pub gone : Option Run
  pub back : Option Run
  pub parts :
      expanded old.next (option_to_list front ++ (option_to_list gone ++ option_to_list back))
      ≡ singles_of old.next run
  pub chained :
      AreChained old.next (option_to_list front ++ (option_to_list gone ++ option_to_list back))
  pub before : IfSome front (IsFront run low)
  pub inside : IfSome gone (λ part. (low ≤ part.start) × (end_of part ≤ high))
  pub behind : IfSome back
      (λ part. (high ≤ part.start) × (run.start ≤ part.start) × (end_of part ≡ end_of run)
      × (part.kind ≡ run.kind))
  pub keeps : kept' ≡ kept ++ (option_to_list front ++ option_to_list back)
  pub frees : new.free ≡ slots_of (expanded old.next (option_to_list gone)) ++ old.free
  pub stays : StaysBut old.next new.next (slots_of (expanded old.next (option_to_list gone)))
  pub links : length new.next ≡ length old.next
  pub blocks : new.blocks ≡ old.blocks
