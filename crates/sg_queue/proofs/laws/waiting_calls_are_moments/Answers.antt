use Rattle.sg_queue.proofs.MomentLemmas.{moments}
use Rattle.sg_queue.proofs.laws.waiting_calls_are_moments.Goals as goal

pub returns : goal.returns
returns c = moments
