use Rattle.std.proofs.Common.{◌≤◌, ◌++◌, length, ap, sym, subst, ◌∙◌, arith}
use Rattle.std.specs.Prelude.{slice_index, option_to_list}
use Rattle.sg_table.specs.Records.{slots_of}
use Rattle.sg_table.specs.Occurrences.{occurrences}
use Rattle.sg_block_map.specs.Cutting.{AreDistinct, StaysBut}
use Rattle.sg_block_map.specs.Runs.{expanded}
use Rattle.sg_pool.proofs.LinkLemmas.{below-in}
use Rattle.sg_block_map.proofs.CutLemmas.{slots-one, length-part, stays-set, once-given}
use Rattle.sg_block_map.proofs.ExpandedLemmas.{expanded-none, last-in}
use Rattle.sg_block_map.proofs.unmap.give.Goals as goal

pub give_chain-requires-clause-last : goal.give_chain-requires-clause-last
give_chain-requires-clause-last c =
    let next = c.args.pool.now.next in
    let run = c.in-Some.run' in
    let chain = rw c.in-Some.is at c.requires.chain in
    let below = rw (c.in-Some.is, slots-one next run) at c.requires.below in
    below-in (length next) run.last _ below (last-in next run.first run.last run.count chain)

pub give_chain-requires-clause-once : goal.give_chain-requires-clause-once
give_chain-requires-clause-once c =
    let next = c.args.pool.now.next in
    let run = c.in-Some.run' in
    let chain = rw c.in-Some.is at c.requires.chain in
    let distinct = subst (λ part. AreDistinct
    (slots_of (expanded next (option_to_list part))) c.args.pool.now.free) c.in-Some.is
    c.requires.distinct in
    once-given next c.args.pool.now.free run.first run.last run.count chain
    (subst (λ xs. AreDistinct xs c.args.pool.now.free) (slots-one next run) distinct)

pub give_chain-requires-clause-slots : goal.give_chain-requires-clause-slots
give_chain-requires-clause-slots c =
    let next = c.args.pool.now.next in
    rw (c.in-Some.is, slots-one next c.in-Some.run') at c.requires.below

pub give_chain-requires-clause-room : goal.give_chain-requires-clause-room
give_chain-requires-clause-room c =
    let next = c.args.pool.now.next in
    let len = ap (λ part. length (expanded next (option_to_list part))) c.in-Some.is
    ∙ length-part next c.in-Some.run' in
    omega (arith, len, c.requires.room)

pub returns-in-Some-clause-free : goal.returns-in-Some-clause-free
returns-in-Some-clause-free c =
    let p = c.args.pool.now in
    let slots = ap (λ part. slots_of (expanded p.next (option_to_list part))) c.in-Some.is
    ∙ slots-one p.next c.in-Some.run' in
    c.give_chain.ensures.free ∙ ap (λ xs. xs ++ p.free) (sym slots)

pub returns-in-Some-clause-stays : goal.returns-in-Some-clause-stays
returns-in-Some-clause-stays c =
    let p = c.args.pool.now in
    let run = c.in-Some.run' in
    let chain = rw c.in-Some.is at c.requires.chain in
    let slots = ap (λ part. slots_of (expanded p.next (option_to_list part))) c.in-Some.is
    ∙ slots-one p.next run in
    let some = last-in p.next run.first run.last run.count chain in
    let in_slots = subst (λ xs. 1 ≤ occurrences run.last xs) (sym slots) some in
    subst (λ xs. StaysBut p.next xs (slots_of (expanded p.next (option_to_list c.args.part))))
    (sym c.give_chain.ensures.next) (stays-set p.next
    (slots_of (expanded p.next (option_to_list c.args.part))) run.last
    (slice_index c.give_chain.new.self.next run.last) in_slots)

pub returns-in_default-clause-free : goal.returns-in_default-clause-free
returns-in_default-clause-free c =
    let p = c.args.pool.now in
    sym (ap (λ part. slots_of (expanded p.next (option_to_list part)) ++ p.free) c.in_default.is
    ∙ ap (λ xs. slots_of xs ++ p.free) (expanded-none p.next))
