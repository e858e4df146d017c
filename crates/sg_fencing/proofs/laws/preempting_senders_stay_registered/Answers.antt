use Rattle.sg_fencing.proofs.PreemptLemmas.{sender-stays}
use Rattle.sg_fencing.proofs.laws.preempting_senders_stay_registered.Goals as goal

pub returns : goal.returns
returns c = sender-stays c.one_key_each.ensures
