use Rattle.sg_fencing.proofs.StoppingLemmas.{idle-units}
use Rattle.sg_fencing.proofs.stopping.a_stopped_unit_is_idle.Goals as goal

pub returns : goal.returns
returns c = idle-units
