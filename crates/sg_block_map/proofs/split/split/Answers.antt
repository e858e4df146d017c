use Rattle.std.proofs.Common.{◌≡◌, ◌+◌, ◌-◌, length, ap, ap₂, sym, ◌∙◌, arith}
use Rattle.std.specs.Prelude.{slice_index}
use Rattle.sg_pool.specs.Chains.{slot_after}
use Rattle.sg_pool.specs.Slots.{Slots}
use Rattle.sg_pool.proofs.LinkLemmas.{slot_after-more}
use Rattle.sg_pool.proofs.LinkLemmas.{slot-below, below-front}
use Rattle.sg_block_map.proofs.SplitLemmas.{only-follows-next}
use Rattle.sg_block_map.proofs.split.split.Goals as goal

pub follow-last-requires-clause-below : goal.follow-last-requires-clause-below
follow-last-requires-clause-below c =
    below-front (length c.args.pool.now.next) c.args.pool.now.next c.args.run.first
    (c.args.count - 1) c.args.count (omega arith) c.requires.below

pub next-first-requires-clause-slot : goal.next-first-requires-clause-slot
next-first-requires-clause-slot c =
    let some = c.requires.within.0 in
    rw (c.follow-last.ensures.pool.pool, c.follow-last.ensures.value)
    (slot-below (length c.args.pool.now.next) c.args.pool.now.next c.args.run.first
    (c.args.count - 1) c.args.count (omega arith) c.requires.below)

pub returns-clause-rest : goal.returns-clause-rest
returns-clause-rest c =
    let some = c.requires.within.0 in
    let next = c.args.pool.now.next in
    let on : c.args.count - 1 + 1 ≡ c.args.count = omega arith in
    let first : c.next-first.result ≡ slot_after next c.args.run.first c.args.count
    = c.next-first.ensures.value ∙ ap₂ slice_index
    (ap (λ (s : Slots). s.next) c.follow-last.ensures.pool.pool) c.follow-last.ensures.value
    ∙ sym (slot_after-more next c.args.run.first (c.args.count - 1))
    ∙ ap (slot_after next c.args.run.first) on in
    ap₂ (λ s f. record {
      start = c.args.run.start + s;
      count = c.args.run.count - c.args.count;
      first = f;
      last = c.args.run.last;
      kind = c.args.run.kind;
    }) c.from.ensures first

pub returns-clause-pool : goal.returns-clause-pool
returns-clause-pool c = only-follows-next c.args.pool.now c.follow-last.new.pool c.next-first.new.self
    c.args.count c.requires.within.0 c.follow-last.ensures.pool c.next-first.ensures.pool
