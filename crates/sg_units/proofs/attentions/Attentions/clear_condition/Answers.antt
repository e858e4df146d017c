use Rattle.std.proofs.Common.{◌∙◌, ap, arith, subst, sym}
use Rattle.sg_units.specs.Attentions.{IsQueue, remaining, without_condition}
use Rattle.sg_units.proofs.AttentionLemmas.{ArePending-replaced, IsQueue-filter, queue-replaced}
use Rattle.sg_units.proofs.attentions.Attentions.clear_condition.Goals as goal

pub invariant_of-self : goal.invariant_of-self
invariant_of-self c =
    ArePending-replaced c.self.inside.pending c.from.result c.index-self-from.result
    c.remove.new.queue (omega arith) c.self.invariant
    (λ q. subst IsQueue (sym c.remove.ensures) (IsQueue-filter _ _ q))

pub returns-clause-limits : goal.returns-clause-limits
returns-clause-limits c = invariant_of-self c

pub returns-clause-pending : goal.returns-clause-pending
returns-clause-pending c =
    let condition = c.args.condition in
    queue-replaced (remaining condition)
    c.self.inside.pending c.from.result c.index-self-from.result c.remove.new.queue c.remove.ensures
    ∙ (ap (λ k. without_condition k c.from.result condition) c.self.view_is
    ∙ ap (λ i. without_condition c.args.self.now i condition)
    (c.from.ensures ∙ c.number.ensures.value))
