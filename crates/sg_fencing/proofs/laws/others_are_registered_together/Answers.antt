use Rattle.sg_fencing.proofs.TogetherLemmas.{registered-together}
use Rattle.sg_fencing.proofs.laws.others_are_registered_together.Goals as goal

pub returns : goal.returns
returns c = registered-together
