use Rattle.std.proofs.Common.{◌≡◌, ◌+◌, ◌-◌, List, ℕ, ap, sym, ◌∙◌, arith, get_or, take, drop}
use Rattle.sg_store.specs.Disk.{zero_block}
use Rattle.sg_pool.specs.Slots.{blocks_from}
use Rattle.sg_pool.proofs.PoolLemmas.{padded-either, padded-zero}
use Rattle.sg_pool.proofs.SlotBytesLemmas.{block-read, length-blocks}
use Rattle.sg_pool.proofs.slot_blocks.SlotBlocks.get.Goals as goal

pub returns-then-slot-self-clause-block : goal.returns-then-slot-self-clause-block
unfolding zero_block
returns-then-slot-self-clause-block c =
    let b = c.self.inside in
    sym (padded-zero (blocks_from b.bytes.items 496 b.stored) c.args.slot b.count
    (omega (arith, length-blocks b.bytes.items 496 b.stored, c.if-slot-self.true)))
    ∙ ap (λ (bs : List (List ℕ)). get_or bs c.args.slot zero_block) c.self.view_is

pub returns-clause-block : goal.returns-clause-block
returns-clause-block c =
    let b = c.self.inside in
    let slot = c.args.slot in
    let at = c.place-at.result in
    let size : at + 512 - at ≡ 512 = omega arith in
    ap (λ k. take k (drop at c.deref.result.now)) size
    ∙ ap (λ xs. take 512 (drop at xs)) c.deref.ensures.value
    ∙ ap (λ p. take 512 (drop p b.bytes.items)) c.place-at.ensures
    ∙ sym (block-read b.bytes.items 496 b.stored slot zero_block (omega (arith, c.if-slot-self.false)))
    ∙ padded-either (blocks_from b.bytes.items 496 b.stored) slot b.count
    ∙ ap (λ (bs : List (List ℕ)). get_or bs slot zero_block) c.self.view_is
