use Rattle.sg_fencing.proofs.PreemptLemmas.{preempt-keeps}
use Rattle.sg_fencing.proofs.laws.preemption_keeps_a_reservation.Goals as goal

pub returns : goal.returns
returns c = preempt-keeps
