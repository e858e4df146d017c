use Rattle.std.proofs.Common.{◌∙◌, [], ap, arith, subst, sym}
use Rattle.sg_units.specs.Attentions.{IsQueue, without_attentions}
use Rattle.sg_units.proofs.AttentionLemmas.{ArePending-replaced, no-queue, queue-replaced}
use Rattle.sg_units.proofs.attentions.Attentions.clear.Goals as goal

pub invariant_of-self : goal.invariant_of-self
invariant_of-self c =
    ArePending-replaced c.self.inside.pending c.from.result c.index-self-from.result
    c.clear.new.self (omega arith) c.self.invariant
    (λ q. subst IsQueue (sym c.clear.ensures) no-queue)

pub returns-clause-limits : goal.returns-clause-limits
returns-clause-limits c = invariant_of-self c

pub returns-clause-pending : goal.returns-clause-pending
returns-clause-pending c =
    queue-replaced (λ q. []) c.self.inside.pending c.from.result c.index-self-from.result
    c.clear.new.self c.clear.ensures
    ∙ (ap (λ k. without_attentions k c.from.result) c.self.view_is
    ∙ ap (without_attentions c.args.self.now) (c.from.ensures ∙ c.number.ensures.value))
