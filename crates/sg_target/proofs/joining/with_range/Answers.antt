use Rattle.std.proofs.Common.{drop, subst, arith}
use Rattle.std.proofs.Common.{length-drop}
use Rattle.std.proofs.lemmas.List.{nil_from_length}
use Rattle.sg_store.specs.declared.store.TheConstants.{MAX_CAPACITY}
use Rattle.sg_target.specs.declared.joining.AddressRange.{AddressRange}
use Rattle.sg_target.proofs.JoiningLemmas.{IsGrown, grown-last, step-within, step-joined, step-apart}
use Rattle.sg_target.proofs.joining.with_range.Goals as goal
use Rattle.sg_target.proofs.joining.with_range.Goals.{in-Some, in-None}

pub joined-requires : goal.joined-requires
joined-requires c =
    let l = c.loop-other in
    let items = c.args.ranges.now in
    let none : AddressRange = record { lba = 0; count = 0 } in
    record {
      fits = step-within c.args.range c.args.ranges.now l.grown l.apart.items items l.other-index none
          c.loop-other-test.true l.invariant MAX_CAPACITY c.requires.fits;
    }

pub loop-other-preserved : goal.loop-other-preserved
loop-other-preserved c =
    let l = c.loop-other in
    let items = c.args.ranges.now in
    let none : AddressRange = record { lba = 0; count = 0 } in
    elim c.match-joined.branch [
      | in-Some w ↦ rw (w.apart-is, w.grown-is)
          (step-joined c.args.range c.args.ranges.now l.grown l.apart.items items l.other-index none
          c.loop-other-test.true l.invariant c.joined.result _ c.joined.ensures w.in-Some.is)
      | in-None w ↦ rw (w.apart-is, w.grown-is)
          (rw w.push.ensures.items (step-apart c.args.range c.args.ranges.now l.grown l.apart.items items
          l.other-index none c.loop-other-test.true l.invariant c.joined.result c.joined.ensures
          w.in-None.is))
    ]

pub returns : goal.returns
returns c =
    let l = c.loop-other in
    let items = c.args.ranges.now in
    let len = length-drop l.other-index items in
    let none = nil_from_length (drop l.other-index items) (omega (arith, c.loop-other-test.false)) in
    rw c.push-2.ensures.items (grown-last c.args.range c.args.ranges.now l.grown l.apart.items
    (subst (IsGrown c.args.range c.args.ranges.now l.grown l.apart.items) none l.invariant))
