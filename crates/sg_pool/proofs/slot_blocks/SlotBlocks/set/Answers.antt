use Rattle.std.proofs.Common.{◌≡◌, ℕ, ◌+◌, ◌-◌, ◌<◌, ◌≤◌, List, ◌++◌, length, set, take, drop, arith}
use Rattle.std.proofs.Common.{ap, ap₂, sym, ◌∙◌}
use Rattle.std.proofs.lemmas.List.{take_at}
use Rattle.std.proofs.lemmas.Slice.{take-put_mid_below}
use borrow.Rule.Slice.PartMut.{put_mid}
use Rattle.sg_pool.specs.Slots.{blocks_from, zero_padded}
use Rattle.sg_pool.proofs.PoolLemmas.{length-padded, padded-more, padded-set}
use Rattle.sg_pool.proofs.SlotBytesLemmas.{blocks-set, length-blocks, length-written}
use Rattle.sg_pool.proofs.slot_blocks.SlotBlocks.set.Goals as goal

pub store_up_to-self-inside-requires-clause-slot : goal.store_up_to-self-inside-requires-clause-slot
store_up_to-self-inside-requires-clause-slot c =
    let b = c.self.inside in
    omega (
      arith,
      length-padded (blocks_from b.bytes.items 496 b.stored) b.count
          (omega (arith, length-blocks b.bytes.items 496 b.stored, c.self.invariant.1)),
      ap (λ (bs : List (List ℕ)). length bs) c.self.view_is,
      c.requires.slot,
      c.self.ranges,
    )

pub store_up_to-self-inside-requires-clause-room : goal.store_up_to-self-inside-requires-clause-room
store_up_to-self-inside-requires-clause-room c =
    let b = c.self.inside in
    omega (
      arith,
      length-padded (blocks_from b.bytes.items 496 b.stored) b.count
          (omega (arith, length-blocks b.bytes.items 496 b.stored, c.self.invariant.1)),
      ap (λ (bs : List (List ℕ)). length bs) c.self.view_is,
      c.requires.slot,
      c.self.invariant.2,
    )

pub invariant_of-self : goal.invariant_of-self
invariant_of-self c =
    let b = c.self.inside in
    let v = c.store_up_to-self-inside.new.bytes in
    let e = c.store_up_to-self-inside.ensures in
    let at = c.place-at.result in
    let block = c.copy_from_slice.new.self in
    let size : at + 512 - at ≡ 512 = omega arith in
    let same = ap₂ (λ k xs. put_mid at k xs block) size c.deref_mut.ensures.value in
    let whole : length block ≡ 512 = ap length c.copy_from_slice.ensures.after ∙ c.requires.byte_count in
    let within : at + 512 ≤ length v.items = omega (arith, c.place-at.ensures, e.length, e.value) in
    let len = length-written v.items block at within whole in
    let items = ap (λ xs. take v.len (xs ++ drop (length xs) v.items)) same
    ∙ take_at (put_mid at 512 v.items block) _ v.len (len ∙ sym v.ok.0) in
    let slot : c.args.slot < b.count = omega (
      arith,
      length-padded (blocks_from b.bytes.items 496 b.stored) b.count
          (omega (arith, length-blocks b.bytes.items 496 b.stored, c.self.invariant.1)),
      ap (λ (bs : List (List ℕ)). length bs) c.self.view_is,
      c.requires.slot,
    ) in (
      ap length items ∙ len ∙ e.length,
      omega (arith, slot, e.value, c.self.invariant.1),
      omega (arith, e.capacity, c.self.invariant.2),
      ap (λ xs. take 496 xs) items
          ∙ take-put_mid_below at 512 v.items block 496 (omega (arith, c.place-at.ensures))
          (omega (arith, within)) ∙ e.head ∙ c.self.invariant.3,
    )

pub returns : goal.returns
returns c =
    let b = c.self.inside in
    let n = b.count in
    let slot = c.args.slot in
    let old = blocks_from b.bytes.items 496 b.stored in
    let v = c.store_up_to-self-inside.new.bytes in
    let k = c.store_up_to-self-inside.result in
    let e = c.store_up_to-self-inside.ensures in
    let at = c.place-at.result in
    let block = c.copy_from_slice.new.self in
    let size : at + 512 - at ≡ 512 = omega arith in
    let same = ap₂ (λ k xs. put_mid at k xs block) size c.deref_mut.ensures.value in
    let whole : length block ≡ 512 = ap length c.copy_from_slice.ensures.after ∙ c.requires.byte_count in
    let within : at + 512 ≤ length v.items = omega (arith, c.place-at.ensures, e.length, e.value) in
    let len = length-written v.items block at within whole in
    let items = ap (λ xs. take v.len (xs ++ drop (length xs) v.items)) same
    ∙ take_at (put_mid at 512 v.items block) _ v.len (len ∙ sym v.ok.0) in
    let below : slot < n = omega (
      arith,
      length-padded old n (omega (arith, length-blocks b.bytes.items 496 b.stored, c.self.invariant.1)),
      ap (λ (bs : List (List ℕ)). length bs) c.self.view_is,
      c.requires.slot,
    ) in
    let reached : slot < k = omega (arith, e.value) in
    let more : length old + (k - b.stored) ≤ n = omega (
      arith,
      length-blocks b.bytes.items 496 b.stored,
      below,
      e.value,
      c.self.invariant.1,
    ) in
    ap (λ xs. zero_padded (blocks_from xs 496 k) n) items
    ∙ ap (λ bs. zero_padded bs n) (blocks-set v.items block 496 k slot at reached c.place-at.ensures
    (omega (arith, within)) whole)
    ∙ padded-set (blocks_from v.items 496 k) slot n block
    (omega (arith, length-blocks v.items 496 k, reached))
    ∙ ap₂ (λ bs x. set (zero_padded bs n) slot x) e.blocks c.copy_from_slice.ensures.after
    ∙ ap (λ (bs : List (List ℕ)). set bs slot c.args.bytes.now)
    (padded-more old (k - b.stored) n more ∙ c.self.view_is)
