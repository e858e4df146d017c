use Rattle.std.proofs.Common.{length, sym, ap, ◌∙◌, arith}
use Rattle.std.proofs.lemmas.List.{get_or_read_under}
use Rattle.sg_pool.specs.Chains.{slot_after}
use Rattle.sg_pool.proofs.LinkLemmas.{slot_after-one}
use Rattle.sg_pool.proofs.LinkLemmas.{below-front, slot-low}
use Rattle.sg_pool.proofs.JumpLemmas.{take-written}
use Rattle.sg_pool.proofs.jumps.step.Goals as goal

pub jump_within-links-requires : goal.jump_within-links-requires
jump_within-links-requires c =
    let low = slot-low (length c.args.next.now) c.args.next.now c.args.slot c.args.left
    c.requires.not_empty c.requires.below in
    omega (arith, low, c.requires.jumps.jumps)

pub index-requires : goal.index-requires
index-requires c =
    let low = slot-low (length c.args.next.now) c.args.next.now c.args.slot c.args.left
    c.requires.not_empty c.requires.below in
    omega (arith, low, c.requires.jumps.targets, c.args.jumps.now.target.ok.0)

pub returns-then-links-gt0-clause-slot : goal.returns-then-links-gt0-clause-slot
returns-then-links-gt0-clause-slot c =
    let next = c.args.next.now in
    let s = c.args.slot in
    let jumps = c.args.jumps.now in
    let low = slot-low (length next) next s c.args.left c.requires.not_empty c.requires.below in
    let links = (c.jump_within-links.ensures.jump c.if-links-gt0.true).0 in
    get_or_read_under jumps.target.items s jumps.target.len c.index.result.now 0 c.index.ensures
    (omega (arith, low, c.requires.jumps.targets, jumps.target.ok.0)) (omega (arith, jumps.target.ok.0))
    ∙ sym (c.requires.jumps.leads s (omega (arith, links, c.if-links-gt0.true)))
    ∙ ap (slot_after next s) (sym links)

pub lay-laid-requires-clause-below : goal.lay-laid-requires-clause-below
lay-laid-requires-clause-below c = below-front (length c.args.next.now) c.args.next.now c.args.slot
    c.whole.result c.args.left c.whole.ensures.left c.requires.below

pub lay-laid-requires-clause-first : goal.lay-laid-requires-clause-first
lay-laid-requires-clause-first c = slot-low (length c.args.next.now) c.args.next.now c.args.slot c.args.left
    c.requires.not_empty c.requires.below

pub index-requires-then-laid-gt0 : goal.index-requires-then-laid-gt0
index-requires-then-laid-gt0 c =
    let low = slot-low (length c.args.next.now) c.args.next.now c.args.slot c.args.left
    c.requires.not_empty c.requires.below in
    omega (arith, low, c.requires.jumps.targets, c.args.jumps.now.target.ok.0)

pub returns-then-laid-gt0-clause-leaps : goal.returns-then-laid-gt0-clause-leaps
returns-then-laid-gt0-clause-leaps c =
    let jumps = c.args.jumps.now in
    let laid = c.lay-laid.new in
    let now = c.lay-laid.ensures.jumps in
    rw (
      take-written jumps.count.len laid.jump jumps.count.items
          (omega (arith, now.jumps, c.requires.jumps.jumps, jumps.count.ok.0)),
      take-written jumps.target.len laid.target jumps.target.items
          (omega (arith, now.targets, c.requires.jumps.targets, jumps.target.ok.0)),
    ) (rw (c.deref_mut-2.ensures.value, c.deref_mut-3.ensures.value) at c.lay-laid.ensures.leaps)

pub bounds-next-slot : goal.bounds-next-slot
bounds-next-slot c = slot-low (length c.args.next.now) c.args.next.now c.args.slot c.args.left
    c.requires.not_empty c.requires.below

pub returns-clause-slot : goal.returns-clause-slot
returns-clause-slot c = sym (slot_after-one c.args.next.now c.args.slot)

pub returns-clause-leaps : goal.returns-clause-leaps
returns-clause-leaps c =
    let jumps = c.args.jumps.now in
    let laid = c.lay-laid.new in
    let now = c.lay-laid.ensures.jumps in
    rw (
      take-written jumps.count.len laid.jump jumps.count.items
          (omega (arith, now.jumps, c.requires.jumps.jumps, jumps.count.ok.0)),
      take-written jumps.target.len laid.target jumps.target.items
          (omega (arith, now.targets, c.requires.jumps.targets, jumps.target.ok.0)),
    ) (rw (c.deref_mut-2.ensures.value, c.deref_mut-3.ensures.value) at c.lay-laid.ensures.leaps)
