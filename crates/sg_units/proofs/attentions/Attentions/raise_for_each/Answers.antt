use Rattle.std.proofs.Common.{◌∙◌, ◌+◌, ap, arith, set, subst, sym}
use Rattle.sg_units.specs.Attentions.{pending_for, with_optional}
use Rattle.sg_units.proofs.AttentionLemmas.{RaisedBelow, RaisedBelow-none, RaisedBelow-more, RaisedBelow-all}
use Rattle.sg_units.proofs.attentions.Attentions.raise_for_each.Goals as goal

pub loop-number-init : goal.loop-number-init
loop-number-init c = record { done = RaisedBelow-none _ _; limits = λ h. absurd (omega arith) }

pub loop-number-preserved : goal.loop-number-preserved
loop-number-preserved c =
    let before = c.loop-number.self in
    let n = c.loop-number.number in
    let e =
    c.raise_at.ensures.pending
    ∙ ap (λ o. set before n (with_optional (pending_for before n) o)) c.at.ensures in
    let size = c.raise_at.ensures.limits_before.one_for_each in
    let more = RaisedBelow-more _ _ before n (omega arith) c.loop-number.invariant.done in
    record {
      done = subst (λ p. RaisedBelow c.args.self.now c.args.raised.now p (n + 1)) (sym e) more;
      limits = λ h. c.raise_at.ensures.limits;
    }

pub returns-clause-pending : goal.returns-clause-pending
returns-clause-pending c =
    let limits = c.loop-number.invariant.limits (omega arith) in
    RaisedBelow-all _ _ _ c.loop-number.number (omega arith) limits.one_for_each
    c.loop-number.invariant.done

pub returns-clause-limits : goal.returns-clause-limits
returns-clause-limits c = c.loop-number.invariant.limits (omega arith)
