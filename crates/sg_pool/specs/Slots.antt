-- The slots of the pool: each is free or has one record.
use Rattle.std.specs.Prelude.{◌≡◌, ℕ, ◌+◌, ◌-◌, ◌*◌, ◌<◌, ◌≤◌, zero, suc, List, [], ◌∷◌, ◌++◌}
use Rattle.std.specs.Prelude.{length, replicate, take, drop}
use Rattle.std.specs.List.{range_with_len}
use Rattle.sg_pool.specs.Chains.{chain}
use Rattle.sg_pool.specs.declared.links.TheConstants.{MAX_SLOTS}
use Rattle.sg_pool.specs.declared.slot_blocks.TheConstants.{HEAD}
use Rattle.sg_store.specs.Disk.{block_length, zero_block}
use Rattle.sg_table.specs.Occurrences.{occurrences, one_if_equal}

-- The blocks of the slots, the link of each slot to the next one of its chain, and the free slots.
-- `links` counts the links that were followed since the last restart.
pub record Slots : Type 0 where
  pub blocks : List (List ℕ)
  pub next : List ℕ
  pub free : List ℕ
  pub links : ℕ

-- The place of the block of a slot, in bytes that have all blocks one after the other.
abbrev pub place_of : (slot : ℕ) → ℕ
place_of slot = HEAD + block_length * slot

-- The bytes before the first block are zeros.
abbrev pub HasZeroHead : (bytes : List ℕ) → Type 0
HasZeroHead bytes = take (place_of 0) bytes ≡ replicate (place_of 0) 0

-- `count` blocks, which lie one after the other from a place of some bytes on.
abbrev pub blocks_from : (bytes : List ℕ) → (place count : ℕ) → List (List ℕ)
blocks_from bytes place zero = []
blocks_from bytes place (suc count) =
    take block_length (drop place bytes) ∷ blocks_from bytes (place + block_length) count

-- The blocks of `count` slots: the first ones are given, and the others are zeros.
abbrev pub zero_padded : List (List ℕ) → (count : ℕ) → List (List ℕ)
zero_padded blocks count = blocks ++ replicate (count - length blocks) zero_block

-- The most slots of a pool with links.
abbrev pub max_slots : ℕ
max_slots = MAX_SLOTS

-- `count` links were followed.
abbrev pub followed : Slots → (count : ℕ) → Slots
followed slots count = record slots { links = slots.links + count }

-- The free slots: the chain of the slots that were given back, and then all slots from `fresh` on.
abbrev pub free_slots : (next : List ℕ) → (first given fresh : ℕ) → List ℕ
free_slots next first given fresh =
    chain next first given ++ range_with_len fresh (length next - fresh)

-- The blocks of slots without links, and the free slots.
pub record UnlinkedSlots : Type 0 where
  pub blocks : List (List ℕ)
  pub free : List ℕ

-- The slots are as before, and one more.
pub record Gains (slot : ℕ) (old new : List ℕ) : Type 0 where
  pub each : (other : ℕ) → occurrences other new ≡ one_if_equal other slot + occurrences other old
  pub count : length new ≡ length old + 1

-- No free slot is below one.
abbrev pub IsLowest : (slot : ℕ) → (free : List ℕ) → Type 0
IsLowest slot free = (other : ℕ) → 0 < occurrences other free → slot ≤ other
