use Rattle.std.proofs.Common.{◌∙◌, ap, arith, set, subst, sym}
use Rattle.sg_units.specs.Attentions.{IsQueue, pending_for, with_optional}
use Rattle.sg_units.proofs.AttentionLemmas.{ArePending-replaced, IsQueue-pending_for, IsQueue-with_optional}
use Rattle.sg_units.proofs.AttentionLemmas.{queue-at, queue-replaced}
use Rattle.sg_units.proofs.attentions.Attentions.raise_at.Goals as goal

pub establish_optional-requires : goal.establish_optional-requires
establish_optional-requires c =
    subst IsQueue
    (queue-at c.self.inside.pending c.args.number c.index-self-number.result (omega arith))
    (IsQueue-pending_for _ c.args.number c.self.invariant.queues)

pub invariant_of-self : goal.invariant_of-self
invariant_of-self c =
    ArePending-replaced c.self.inside.pending c.args.number c.index-self-number.result
    c.establish_optional.new.queue (omega arith) c.self.invariant
    (λ q. subst IsQueue (sym c.establish_optional.ensures) (IsQueue-with_optional _ _ q))

pub returns-clause-limits : goal.returns-clause-limits
returns-clause-limits c = invariant_of-self c

pub returns-clause-pending : goal.returns-clause-pending
returns-clause-pending c =
    let n = c.args.number in
    let condition = c.args.condition in
    queue-replaced (λ q. with_optional q condition) c.self.inside.pending n
    c.index-self-number.result c.establish_optional.new.queue c.establish_optional.ensures
    ∙ ap (λ k. set k n (with_optional (pending_for k n) condition)) c.self.view_is
