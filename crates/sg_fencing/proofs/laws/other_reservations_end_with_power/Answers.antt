use Rattle.sg_fencing.proofs.PowerLemmas.{drops}
use Rattle.sg_fencing.proofs.laws.other_reservations_end_with_power.Goals as goal

pub returns : goal.returns
returns c state h = drops state h
