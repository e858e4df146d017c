use Rattle.sg_fencing.proofs.PreemptLemmas.{preempt-unregisters}
use Rattle.sg_fencing.proofs.laws.preemption_unregisters.Goals as goal

pub returns : goal.returns
returns c = preempt-unregisters c.one_key_each.ensures
