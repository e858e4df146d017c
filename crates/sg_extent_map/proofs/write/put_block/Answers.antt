use Rattle.std.proofs.Common.{length, ap, ◌∙◌, arith}
use Rattle.sg_pool.specs.Slots.{UnlinkedSlots}
use Rattle.sg_table.specs.Occurrences.{occurrences}
use Rattle.sg_table.proofs.OccurrenceLemmas.{occurrences-more, same_slot}
use Rattle.sg_extent_map.proofs.write.put_block.Goals as goal

pub fill-requires-clause-slot : goal.fill-requires-clause-slot
fill-requires-clause-slot c =
    let slot = c.take-slot.result in
    let free = ap (occurrences slot) c.take-slot.ensures.free
    ∙ occurrences-more slot slot c.take-slot.new.self.free in
    let one = same_slot slot in
    let low = c.requires.below slot (omega arith) in
    let same = ap (λ (s : UnlinkedSlots). length s.blocks) c.take-slot.ensures.pool in
    omega arith
