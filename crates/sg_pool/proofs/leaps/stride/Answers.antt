use Rattle.std.proofs.Common.{◌<◌, length, get_or, sym, ap, ◌∙◌, arith}
use Rattle.std.proofs.lemmas.List.{get_or_read_under}
use Rattle.sg_pool.specs.Chains.{slot_after}
use Rattle.sg_pool.proofs.LinkLemmas.{slot-low}
use Rattle.sg_pool.proofs.JumpLemmas.{take-written}
use Rattle.sg_pool.proofs.LeapLemmas.{span-leads}
use Rattle.sg_pool.proofs.leaps.stride.Goals as goal

pub leap_within-reach-requires-clause-slot : goal.leap_within-reach-requires-clause-slot
leap_within-reach-requires-clause-slot c =
    let low = slot-low (length c.args.next.now) c.args.next.now c.args.slot c.args.left
    c.requires.not_empty c.requires.below in
    omega (arith, low, c.requires.leaps.derived.jumps, c.requires.jumps.targets)

pub index-requires : goal.index-requires
index-requires c =
    let low = slot-low (length c.args.next.now) c.args.next.now c.args.slot c.args.left
    c.requires.not_empty c.requires.below in
    let targets = c.requires.leaps.derived.targets in
    omega (arith, low, targets, c.requires.jumps.targets, c.args.leaps.now.landing.ok.0)

pub returns-then-reach-gt0-clause-slot : goal.returns-then-reach-gt0-clause-slot
returns-then-reach-gt0-clause-slot c =
    let d = c.requires.leaps in
    let s = c.args.slot in
    let next = c.args.next.now in
    let jumps = c.args.jumps.now in
    let leaps = c.args.leaps.now in
    let low = slot-low (length next) next s c.args.left c.requires.not_empty c.requires.below in
    let n = get_or leaps.count.items s 0 in
    let taken = c.leap_within-reach.ensures.leap c.if-reach-gt0.true in
    let landing =
    get_or_read_under leaps.landing.items s leaps.landing.len c.index.result.now 0 c.index.ensures
    (omega (arith, low, d.derived.targets, c.requires.jumps.targets, leaps.landing.ok.0))
    (omega (arith, leaps.landing.ok.0)) in
    let some : 0 < n = taken.0 in
    landing
    ∙ sym (ap (slot_after next s) (taken.1 ∙ d.spans s some)
    ∙ span-leads next jumps.owner.items jumps.count.items jumps.target.items s n
    c.requires.jumps (d.alive s) ∙ d.derived.leads s some)

pub lay_leap-walk-requires-clause-first : goal.lay_leap-walk-requires-clause-first
lay_leap-walk-requires-clause-first c =
    let low = slot-low (length c.args.next.now) c.args.next.now c.args.slot c.args.left
    c.requires.not_empty c.requires.below in
    omega (arith, low, c.requires.jumps.targets)

pub returns-clause-leaps : goal.returns-clause-leaps
returns-clause-leaps c =
    let old = c.args.leaps.now in
    let new = c.lay_leap-walk.new in
    let was = c.requires.leaps in
    let is = c.lay_leap-walk.ensures.leaps in
    rw (
      take-written old.owner.len new.owner old.owner.items
          (omega (arith, is.derived.owners, was.derived.owners, old.owner.ok.0)),
      take-written old.count.len new.count old.count.items
          (omega (arith, is.derived.jumps, was.derived.jumps, old.count.ok.0)),
      take-written old.landing.len new.landing old.landing.items
          (omega (arith, is.derived.targets, was.derived.targets, old.landing.ok.0)),
      take-written old.reach.len new.reach old.reach.items
          (omega (arith, is.reaches, was.reaches, old.reach.ok.0)),
    ) (c.step-2.ensures.leaps _ _ _ _ is)

pub returns-then-walk-gt0-clause-slot : goal.returns-then-walk-gt0-clause-slot
returns-then-walk-gt0-clause-slot c =
    let e = c.lay_leap-walk.ensures in
    let some = c.if-walk-gt0.true in
    let n = c.lay_leap-walk.result.steps in
    let next = c.args.next.now in
    let jumps = c.args.jumps.now in
    let first = c.args.slot in
    e.slot some
    ∙ sym (span-leads next jumps.owner.items jumps.count.items jumps.target.items first n
    c.requires.jumps e.live)
    ∙ ap (slot_after next first) (sym (e.passed some))

pub returns-then-left-lt-LEAP-clause-leaps : goal.returns-then-left-lt-LEAP-clause-leaps
returns-then-left-lt-LEAP-clause-leaps c = c.step.ensures.leaps _ _ _ _ c.requires.leaps
