use Rattle.sg_fencing.proofs.PowerLemmas.{twice}
use Rattle.sg_fencing.proofs.laws.two_power_cycles_are_one.Goals as goal

pub returns : goal.returns
returns c state = twice state
