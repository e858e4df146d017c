-- The parts of a `Pool`, of an `UnlinkedPool`, and of what they are made of, in two ways. Two pools
-- that agree in the listed parts are the same pool. Each part is a field of the listed type, and
-- there is no other field. So a pool keeps nothing beside these parts. The last definition says
-- where in its memory each block is.
use Rattle.std.specs.Prelude.{◌≡◌, [], ◌∷◌}
use Rattle.sg_table.specs.Fields.{HasOnly, vec_field}
use Rattle.sg_pool.specs.Slots.{blocks_from, place_of, zero_padded, HasZeroHead}
use Rattle.sg_pool.specs.contracts.bits.Bits as bits
use Rattle.sg_pool.specs.contracts.jumps.Jumps as jumps
use Rattle.sg_pool.specs.contracts.leaps.Leaps as leaps
use Rattle.sg_pool.specs.contracts.links.Links as links
use Rattle.sg_pool.specs.contracts.links.Links.TheInside as links_inside
use Rattle.sg_pool.specs.contracts.pool.Pool.TheInside.{struct}
use Rattle.sg_pool.specs.contracts.slot_blocks.SlotBlocks as blocks
use Rattle.sg_pool.specs.contracts.slot_blocks.SlotBlocks.TheInside as blocks_inside
use Rattle.sg_pool.specs.contracts.slot_set.SlotSet as slot_set
use Rattle.sg_pool.specs.contracts.unlinked_pool.UnlinkedPool.TheInside as unlinked_inside
use Rattle.sg_pool.specs.declared.links.Links.TheInside.{Inside as LinksInside}
use Rattle.sg_pool.specs.declared.pool.Pool.TheInside.{Inside}
use Rattle.sg_pool.specs.declared.slot_blocks.SlotBlocks.TheInside.{Inside as BlocksInside}
use Rattle.sg_pool.specs.declared.slot_blocks.SlotBlocks.TheView.{invariant, view}
use Rattle.sg_pool.specs.declared.unlinked_pool.UnlinkedPool.TheInside.{Inside as UnlinkedInside}
use denote.Builtin.{u8, u16, u64}
use denote.Struct.Field.{u32-field, u64-field}

-- The same blocks and links, the same free slots, and the same count.
pub record IsSamePool (pool other : Inside) : Type 0 where
  pub blocks : pool.blocks ≡ other.blocks
  pub next : pool.next ≡ other.next
  pub first_given : pool.first_given ≡ other.first_given
  pub given_count : pool.given_count ≡ other.given_count
  pub fresh : pool.fresh ≡ other.fresh
  pub links : pool.links ≡ other.links

abbrev pub PoolIsItsParts : Type 0
PoolIsItsParts = (pool other : Inside) → IsSamePool pool other → pool ≡ other

abbrev pub PoolHasOnlyItsParts : Type 0
PoolHasOnlyItsParts = HasOnly struct.parts (
    blocks.the_field  -- blocks
    ∷ links.the_field  -- next
    ∷ u32-field  -- first_given
    ∷ u32-field  -- given_count
    ∷ u32-field  -- fresh
    ∷ u64-field  -- links
    ∷ [])

-- The same link of each slot, and the same jumps and leaps: three and four numbers for each slot.
pub record IsSameLinks (one other : LinksInside) : Type 0 where
  pub next : one.next ≡ other.next
  pub jump_owner : one.jumps.owner ≡ other.jumps.owner
  pub jump_count : one.jumps.count ≡ other.jumps.count
  pub jump_target : one.jumps.target ≡ other.jumps.target
  pub leap_owner : one.leaps.owner ≡ other.leaps.owner
  pub leap_count : one.leaps.count ≡ other.leaps.count
  pub leap_landing : one.leaps.landing ≡ other.leaps.landing
  pub leap_reach : one.leaps.reach ≡ other.leaps.reach

abbrev pub LinksAreTheirParts : Type 0
LinksAreTheirParts = (one other : LinksInside) → IsSameLinks one other → one ≡ other

pub record LinksHaveOnlyTheirParts : Type 0 where
  pub links : HasOnly links_inside.struct.parts (
      vec_field u16  -- next
      ∷ jumps.the_field  -- jumps
      ∷ leaps.the_field  -- leaps
      ∷ [])
  pub jumps : HasOnly jumps.struct.parts (
      vec_field u16  -- owner
      ∷ vec_field u8  -- count
      ∷ vec_field u16  -- target
      ∷ [])
  pub leaps : HasOnly leaps.struct.parts (
      vec_field u16  -- owner
      ∷ vec_field u8  -- count
      ∷ vec_field u16  -- landing
      ∷ vec_field u16  -- reach
      ∷ [])

-- ---- Pools without links

-- The same blocks, and the same set of used slots with its two summaries.
pub record IsSameUnlinkedPool (one other : UnlinkedInside) : Type 0 where
  pub blocks : one.blocks ≡ other.blocks
  pub slot_count : one.used.count ≡ other.used.count
  pub slots : one.used.slots.words ≡ other.used.slots.words
  pub full : one.used.full.words ≡ other.used.full.words
  pub full_groups : one.used.full_groups.words ≡ other.used.full_groups.words
  pub free_count : one.free_count ≡ other.free_count

abbrev pub UnlinkedPoolIsItsParts : Type 0
UnlinkedPoolIsItsParts = (one other : UnlinkedInside) → IsSameUnlinkedPool one other → one ≡ other

pub record UnlinkedPoolHasOnlyItsParts : Type 0 where
  pub pool : HasOnly unlinked_inside.struct.parts (
      blocks.the_field  -- blocks
      ∷ slot_set.the_field  -- used
      ∷ u32-field  -- free_count
      ∷ [])
  pub set : HasOnly slot_set.struct.parts (
      u32-field  -- count
      ∷ bits.the_field  -- slots
      ∷ bits.the_field  -- full
      ∷ bits.the_field  -- full_groups
      ∷ [])
  pub bits : HasOnly bits.struct.parts (
      vec_field u64  -- words
      ∷ [])

-- ---- Blocks

-- The bytes, which have the first blocks, as far as one was set, the number of these blocks, and the
-- number of all blocks.
pub record IsSameBlocks (one other : BlocksInside) : Type 0 where
  pub bytes : one.bytes ≡ other.bytes
  pub stored : one.stored ≡ other.stored
  pub count : one.count ≡ other.count

abbrev pub BlocksAreTheirParts : Type 0
BlocksAreTheirParts = (one other : BlocksInside) → IsSameBlocks one other → one ≡ other

abbrev pub BlocksHaveOnlyTheirParts : Type 0
BlocksHaveOnlyTheirParts = HasOnly blocks_inside.struct.parts (
    vec_field u8  -- bytes
    ∷ u32-field  -- stored
    ∷ u32-field  -- count
    ∷ [])

-- The blocks lie one after the other in the bytes, each at the place of its slot. Past the last stored
-- block each block is zeros. The bytes before the first block are zeros, so they keep nothing.
pub record BlocksLieInOrder : Type 0 where
  pub blocks : (blocks : BlocksInside) → view blocks
      ≡ zero_padded (blocks_from blocks.bytes.items (place_of 0) blocks.stored) blocks.count
  pub head : (blocks : BlocksInside) → invariant blocks → HasZeroHead blocks.bytes.items
