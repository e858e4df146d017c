use Rattle.std.proofs.Common.{List, ℕ, length, ap, sym, ◌∙◌, arith}
use Rattle.sg_pool.specs.Slots.{blocks_from}
use Rattle.sg_pool.proofs.PoolLemmas.{length-padded}
use Rattle.sg_pool.proofs.SlotBytesLemmas.{length-blocks}
use Rattle.sg_pool.proofs.slot_blocks.SlotBlocks.count.Goals as goal

pub returns : goal.returns
returns c =
    let b = c.self.inside in
    sym (length-padded (blocks_from b.bytes.items 496 b.stored) b.count
    (omega (arith, length-blocks b.bytes.items 496 b.stored, c.self.invariant.1)))
    ∙ ap (λ (bs : List (List ℕ)). length bs) c.self.view_is
