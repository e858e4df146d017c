use Rattle.sg_target.proofs.FaultLawLemmas.{stays-refused}
use Rattle.sg_target.proofs.laws.refused_commands_stay_refused.Goals as goal

pub returns : goal.returns
returns c = stays-refused
