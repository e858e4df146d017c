use Rattle.sg_fencing.proofs.RegisteringLemmas.{refused-stay}
use Rattle.sg_fencing.proofs.laws.the_refused_stay_unregistered.Goals as goal

pub returns : goal.returns
returns c = refused-stay
