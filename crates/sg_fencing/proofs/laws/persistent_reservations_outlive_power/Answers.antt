use Rattle.sg_fencing.proofs.PowerLemmas.{keeps}
use Rattle.sg_fencing.proofs.laws.persistent_reservations_outlive_power.Goals as goal

pub returns : goal.returns
returns c state h = keeps state h
