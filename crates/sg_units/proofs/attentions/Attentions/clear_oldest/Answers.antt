use Rattle.std.proofs.Common.{◌∙◌, ap, arith, drop, subst, sym}
use Rattle.sg_units.specs.Attentions.{IsQueue, without_oldest}
use Rattle.sg_units.proofs.AttentionLemmas.{ArePending-replaced, IsQueue-drop, queue-replaced}
use Rattle.sg_units.proofs.attentions.Attentions.clear_oldest.Goals as goal

pub invariant_of-self : goal.invariant_of-self
invariant_of-self c =
    ArePending-replaced c.self.inside.pending c.from.result c.index-self-from.result
    c.remove_first.new.queue (omega arith) c.self.invariant
    (λ q. subst IsQueue (sym c.remove_first.ensures) (IsQueue-drop _ q))

pub returns-clause-limits : goal.returns-clause-limits
returns-clause-limits c = invariant_of-self c

pub returns-clause-pending : goal.returns-clause-pending
returns-clause-pending c =
    queue-replaced (λ q. drop 1 q) c.self.inside.pending c.from.result c.index-self-from.result
    c.remove_first.new.queue c.remove_first.ensures
    ∙ (ap (λ k. without_oldest k c.from.result) c.self.view_is
    ∙ ap (without_oldest c.args.self.now) (c.from.ensures ∙ c.number.ensures.value))
