use Rattle.sg_fencing.proofs.PowerLemmas.{power-on-pending}
use Rattle.sg_fencing.proofs.laws.power_on_is_pending_for_each_initiator.Goals as goal

pub returns : goal.returns
returns c state initiator h = power-on-pending state initiator h
