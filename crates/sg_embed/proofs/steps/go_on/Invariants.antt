use Rattle.sg_embed.proofs.CompactingLemmas.{GoingOn, steps-left}
use Rattle.sg_embed.proofs.steps.go_on.Given as goal

abbrev pub invariant-loop-from : goal.invariant-loop-from
invariant-loop-from l = record { goes : GoingOn l.fn.disk l.disk l.fn.next l.next }

abbrev pub decreases-loop-from : goal.decreases-loop-from
decreases-loop-from l = steps-left l.disk l.next
