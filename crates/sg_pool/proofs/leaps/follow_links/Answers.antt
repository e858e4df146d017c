use Rattle.std.proofs.Common.{length, get_or, sym, ap, ◌∙◌, arith}
use Rattle.sg_pool.proofs.LinkLemmas.{slot_after-none, slot_after-more, slot-below}
use Rattle.sg_pool.proofs.leaps.follow_links.Goals as goal

pub loop-i-init : goal.loop-i-init
loop-i-init c = sym (slot_after-none c.args.next.now c.args.first)

pub bounds-next-slot : goal.bounds-next-slot
bounds-next-slot c =
    let next = c.args.next.now in
    let low = slot-below (length next) next c.args.first c.loop-i._i c.args.count c.loop-i-test.true
    c.requires in
    omega (arith, c.loop-i.invariant, low)

pub loop-i-preserved : goal.loop-i-preserved
loop-i-preserved c =
    let next = c.args.next.now in
    ap (λ s. get_or next s 0) c.loop-i.invariant ∙ sym (slot_after-more next c.args.first c.loop-i._i)
