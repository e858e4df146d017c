-- The ranges of blocks that a command goes over. They say what it costs, and not what it means.
use Rattle.std.specs.List.{flat_map, range_with_len}
use Rattle.std.specs.Prelude.{ℕ, ◌+◌, ◌-◌, nat_le, List, [], ◌∷◌, ◌++◌, Bool, false, true, map}
use Rattle.std.specs.Prelude.{Result, Ok, Err}
use Rattle.std.specs.Prelude.{if◌then◌else◌, is_none}
use Rattle.sg_copy.specs.declared.copy_list.Segment.{Segment}
use Rattle.sg_wire.specs.declared.extent.Extent.{Extent}
use Rattle.sg_store.specs.Comparison.{first_difference}
use Rattle.sg_store.specs.Disk.{Contents, Disk, anchored, replaced, unmapped}
use Rattle.sg_store.specs.LbaStatus.{covered, lba_status}
use Rattle.sg_target.specs.Armed.{Armed, attempt_of}
use Rattle.sg_target.specs.BlockCommands.{BlocksOutFields, ExchangeFields, blocks_at, copied, copied_block}
use Rattle.sg_target.specs.BlockCommands.{destination_of, ored, ored_block}
use Rattle.sg_target.specs.Demands.{extent}
use Rattle.sg_target.specs.Effect.{no_space}
use Rattle.sg_target.specs.ProvisioningCommands.{Change, changed_in_turn}
use Rattle.sg_target.specs.State.{State}
use Rattle.sg_target.specs.declared.operation.Operation.{Operation}
use Rattle.sg_target.specs.declared.operation.Operation.TheVariants.{Anchor, AnchorExtent, Fill, Read}
use Rattle.sg_target.specs.declared.operation.Operation.TheVariants.{Compare, CompareAndWrite}
use Rattle.sg_target.specs.declared.operation.Operation.TheVariants.{CompareEach, Copy, OrWrite}
use Rattle.sg_target.specs.declared.operation.Operation.TheVariants.{ReturnLbaStatus, Unmap}
use Rattle.sg_target.specs.declared.operation.Operation.TheVariants.{UnmapAll, UnmapExtent, Write}
use Rattle.sg_target.specs.declared.refusal.Refusal.{Refusal}

-- A range of blocks that the store is asked for, with the used addresses that it meets, as the
-- ranges before it have left them.
pub record Range : Type 0 where
  pub contents : Contents
  pub lba : ℕ
  pub count : ℕ
  -- whether only the blocks of the pool that it needs are counted
  pub counted : Bool

abbrev pub range : Contents → Extent → Range
range contents blocks =
    record { contents = contents; lba = blocks.lba; count = blocks.count; counted = false }

abbrev pub counted_range : Contents → Extent → Range
counted_range contents blocks = record (range contents blocks) { counted = true }

-- The ranges of extents that are changed one after the other: each meets the used addresses that the
-- ranges before it have left.
abbrev pub ranges_in_turn : Change → Contents → List Extent → List Range
ranges_in_turn change contents [] = []
ranges_in_turn change contents (extent ∷ rest) =
    range contents extent ∷ ranges_in_turn change (change contents extent.lba extent.count) rest

-- Extents that are anchored are gone over twice. The store first counts the blocks that all of them
-- need, before anything changes. If the pool has room for them, it goes over all again.
abbrev pub anchoring_ranges : Disk → List Extent → List Range
anchoring_ranges disk extents =
    let after = record disk { contents = changed_in_turn anchored disk.contents extents } in
    map (counted_range disk.contents) extents
    ++ (if is_none (no_space after) then ranges_in_turn anchored disk.contents extents else [])

-- GET LBA STATUS goes over the blocks that its descriptors cover.
abbrev pub status_ranges : Disk → (start : ℕ) → List Range
status_ranges disk start =
    record {
      contents = disk.contents;
      lba = start;
      count = covered (lba_status disk start);
      counted = false;
    }
    ∷ []

-- COMPARE AND WRITE goes over its blocks again if they are as expected.
abbrev pub exchange_ranges : State → ExchangeFields → List Range
exchange_ranges state exchange =
    let range = range state.disk.contents exchange.extent in
    let difference = first_difference (blocks_at state exchange.extent) exchange.expected in
    range ∷ (if is_none difference then range ∷ [] else [])

-- ORWRITE first counts the blocks of the pool that its blocks need. If the pool has room for them, it
-- reads each block, and then writes it. It meets the used addresses as the blocks before have left them.
abbrev pub block_ranges : Contents → BlocksOutFields → (index : ℕ) → List Range
block_ranges contents out index =
    let so_far = replaced contents out.extent.lba index (ored_block contents out) in
    let range = range so_far (extent (out.extent.lba + index) 1) in
    range ∷ range ∷ []

abbrev pub or_write_ranges : Disk → BlocksOutFields → List Range
or_write_ranges disk out =
    let after = record disk { contents = ored disk.contents out } in
    let each = flat_map (block_ranges disk.contents out) (range_with_len 0 out.extent.count) in
    counted_range disk.contents out.extent ∷ (if is_none (no_space after) then each else [])

-- EXTENDED COPY copies its first block first, or its last one if the destination is above the source. So it
-- reads each block before it overwrites it. `done` blocks have been copied before.
abbrev pub copies_forwards : Segment → Bool
copies_forwards segment = nat_le segment.destination segment.source

abbrev pub next_copied : Segment → (done : ℕ) → ℕ
next_copied segment done = if copies_forwards segment then done else segment.blocks - 1 - done

abbrev pub first_done : Segment → (done : ℕ) → ℕ
first_done segment done = if copies_forwards segment then 0 else segment.blocks - done

abbrev pub copied_so_far : Contents → Segment → (done : ℕ) → Contents
copied_so_far contents segment done =
    let first = first_done segment done in
    replaced contents (segment.destination + first) done
    (λ index. copied_block contents segment (first + index))

-- Each step reads a block, and then writes it.
abbrev pub step_ranges : Contents → Segment → (done : ℕ) → List Range
step_ranges contents segment done =
    let index = next_copied segment done in
    let so_far = copied_so_far contents segment done in
    range so_far (extent (segment.source + index) 1)
    ∷ range so_far (extent (segment.destination + index) 1) ∷ []

-- It first counts the blocks of the pool that its destination needs. It copies if the pool has room for them.
abbrev pub copy_ranges : Disk → Segment → List Range
copy_ranges disk segment =
    let after = record disk { contents = copied disk.contents segment } in
    let each = flat_map (step_ranges disk.contents segment) (range_with_len 0 segment.blocks) in
    counted_range disk.contents (destination_of segment)
    ∷ (if is_none (no_space after) then each else [])

-- The ranges of an operation, in order. An operation that is not named here goes over none.
abbrev pub ranges_of : State → Operation → List Range
ranges_of state (Read extent) = range state.disk.contents extent ∷ []
ranges_of state (Write out) = range state.disk.contents out.extent ∷ []
ranges_of state (Compare out) = range state.disk.contents out.extent ∷ []
ranges_of state (CompareEach extent block) = range state.disk.contents extent ∷ []
ranges_of state (CompareAndWrite exchange) = exchange_ranges state exchange
ranges_of state (OrWrite out) = or_write_ranges state.disk out
ranges_of state (Copy segment) = copy_ranges state.disk segment
ranges_of state (Fill extent block) = range state.disk.contents extent ∷ []
ranges_of state (Unmap extents) = ranges_in_turn unmapped state.disk.contents extents
ranges_of state (UnmapExtent extent) = ranges_in_turn unmapped state.disk.contents (extent ∷ [])
ranges_of state (UnmapAll blocks) = range state.disk.contents (extent 0 blocks) ∷ []
ranges_of state (Anchor extents) = anchoring_ranges state.disk extents
ranges_of state (AnchorExtent extent) = anchoring_ranges state.disk (extent ∷ [])
ranges_of state (ReturnLbaStatus start n) = status_ranges state.disk start
ranges_of state _ = []

-- A command that a check refuses goes over no range. One that finds a refusal on its way has gone
-- over its ranges, and is charged for them.
abbrev pub ranges_if_passed : State → Result Operation Refusal → List Range
ranges_if_passed state (Ok operation) = ranges_of state operation
ranges_if_passed state (Err refusal) = []

-- The ranges that a CDB goes over with its data-out. An armed fault can refuse it or shorten it.
abbrev pub ranges : Armed → (initiator : ℕ) → (cdb data_out : List ℕ) → List Range
ranges disk initiator cdb data_out =
    ranges_if_passed disk.state (attempt_of disk initiator cdb data_out).result
