-- The effects of the block commands (SBC-3, 5).
use Rattle.std.specs.Prelude.{ℕ, ◌+◌, ◌*◌, ◌/◌, ◌%◌, min, max, List, [], ◌∷◌, length, drop, map}
use Rattle.std.specs.Prelude.{zip, bit_or, nat_lt, Option, Some, None, if◌then◌else◌}
use Rattle.std.specs.Option.{option_map}
use Rattle.sg_copy.specs.declared.copy_list.Segment.{Segment}
use Rattle.sg_wire.specs.FirstBytes.{first_bytes}
use Rattle.sg_wire.specs.declared.extent.Extent.{Extent}
use Rattle.sg_store.specs.Comparison.{first_difference, repeated}
use Rattle.sg_store.specs.Disk.{Contents, block, block_at, blocks, replaced, written}
use Rattle.sg_pages.specs.BlockDescriptor.{logical_block_length}
use Rattle.sg_target.specs.Effect.{Effect, no_effect, returning, storing}
use Rattle.sg_target.specs.Refusal.{first_some}
use Rattle.sg_target.specs.State.{State}
use Rattle.sg_target.specs.declared.refusal.Reason.TheVariants.{LbaOutOfRange, Miscompare}
use Rattle.sg_target.specs.declared.refusal.Refusal.{Refusal}
use Rattle.sg_target.specs.declared.refusal.Refusal.TheVariants.{CheckCondition}

-- READ returns the bytes of its blocks.
abbrev pub reading : State → Extent → Effect
reading state extent = returning state (blocks state.disk.contents extent.lba extent.count)

-- The number of bytes of an extent's blocks.
abbrev pub bytes_of : Extent → ℕ
bytes_of extent = logical_block_length * extent.count

-- An address is past the last one; the first such address is reported.
-- Choice (SBC-3, 5.11): a range of no block at the capacity may be refused.
abbrev pub past_capacity : (capacity : ℕ) → Extent → Option Refusal
past_capacity capacity extent =
    if nat_lt capacity (extent.lba + extent.count)
    then Some (CheckCondition (LbaOutOfRange (max extent.lba capacity)))
    else None

-- Only the first blocks of an extent, at most this many.
abbrev pub first_of : (blocks : ℕ) → Extent → Extent
first_of blocks extent = record extent { count = min blocks extent.count }

-- The first blocks of an extent, as many as data-out has in full.
-- Choice (SAM-5, data-out): a block of which bytes are missing is neither written nor compared.
abbrev pub whole_blocks : Extent → (data_out : List ℕ) → Extent
whole_blocks extent data_out = first_of (length data_out / logical_block_length) extent

-- Blocks, and as many bytes as they have.
pub record BlocksOutFields : Type 0 where
  pub extent : Extent
  pub bytes : List ℕ

-- These bytes are the first of data-out.
abbrev pub blocks_out : Extent → (data_out : List ℕ) → BlocksOutFields
blocks_out extent data_out =
    record { extent = extent; bytes = first_bytes (bytes_of extent) data_out }

-- WRITE replaces its blocks by these bytes.
abbrev pub writing : State → BlocksOutFields → Effect
writing state out =
    storing state (written state.disk.contents out.extent.lba out.extent.count out.bytes)

-- ORWRITE replaces each of its blocks by the block with the bits of data-out set, too: a bit is 1 if it
-- was 1 or is 1 in the bytes (SBC-3, 5.5).
abbrev pub or_bytes : (old bytes : List ℕ) → List ℕ
or_bytes old bytes = map (λ (pair : ℕ × ℕ). bit_or pair.0 pair.1) (zip old bytes)

abbrev pub ored_block : Contents → BlocksOutFields → (index : ℕ) → List ℕ
ored_block contents out index =
    or_bytes (block contents (out.extent.lba + index)) (block_at out.bytes index)

abbrev pub ored : Contents → BlocksOutFields → Contents
ored contents out =
    replaced contents out.extent.lba out.extent.count (ored_block contents out)

abbrev pub or_writing : State → BlocksOutFields → Effect
or_writing state out = storing state (ored state.disk.contents out)

-- The blocks that an EXTENDED COPY reads, and those that it writes.
abbrev pub source_of : Segment → Extent
source_of segment = record { lba = segment.source; count = segment.blocks }

abbrev pub destination_of : Segment → Extent
destination_of segment = record { lba = segment.destination; count = segment.blocks }

-- EXTENDED COPY replaces each block of its destination by what the block of its source had before the command
-- (SPC-4, 6.5). A block that is not mapped is copied as zeros.
-- Choice (SPC-4, 6.5): blocks that overlap, or that are not mapped, may be copied otherwise.
abbrev pub copied_block : Contents → Segment → (index : ℕ) → List ℕ
copied_block contents segment index = block contents (segment.source + index)

abbrev pub copied : Contents → Segment → Contents
copied contents segment =
    replaced contents segment.destination segment.blocks (copied_block contents segment)

abbrev pub copying : State → Segment → Effect
copying state segment = storing state (copied state.disk.contents segment)

-- ---- Comparing

-- Blocks differ from other bytes: the refusal has the offset of the first byte that differs.
abbrev pub miscompare : Option ℕ → Option Refusal
miscompare = option_map (λ offset. CheckCondition (Miscompare offset))

abbrev pub blocks_at : State → Extent → List ℕ
blocks_at state extent = blocks state.disk.contents extent.lba extent.count

-- VERIFY compares its blocks with these bytes (SBC-3, 5.29).
-- Choice (SBC-3, 5.29): INFORMATION of a VERIFY may be an address.
abbrev pub comparing : State → BlocksOutFields → Effect
comparing state out =
    record (no_effect state)
    { found = miscompare (first_difference (blocks_at state out.extent) out.bytes) }

-- It compares each of its blocks with one block. The offset is the offset in that block.
abbrev pub comparing_each : State → Extent → (block : List ℕ) → Effect
comparing_each state extent block =
    let difference = first_difference (blocks_at state extent) (repeated extent.count block) in
    record (no_effect state)
    { found = miscompare (option_map (λ offset. offset % logical_block_length) difference) }

-- Blocks, the bytes that they are expected to have, and the bytes that replace them.
pub record ExchangeFields : Type 0 where
  pub extent : Extent
  pub expected : List ℕ
  pub replacement : List ℕ

-- The first bytes of data-out are expected, and the others replace them.
abbrev pub exchange_out : Extent → (data_out : List ℕ) → ExchangeFields
exchange_out extent data_out = record {
  extent = extent;
  expected = first_bytes (bytes_of extent) data_out;
  replacement = drop (bytes_of extent) data_out;
}

-- COMPARE AND WRITE replaces its blocks if they are as expected, and if the pool has space for them
-- (SBC-3, 5.2).
-- Choice (SBC-3, 5.2): a lack of space may be found before a difference.
abbrev pub exchanging : State → ExchangeFields → Effect
exchanging state exchange =
    let extent = exchange.extent in
    let write =
    storing state (written state.disk.contents extent.lba extent.count exchange.replacement) in
    let difference = first_difference (blocks_at state extent) exchange.expected in
    record write { found = first_some (miscompare difference ∷ write.found ∷ []) }
