use Rattle.sg_target.proofs.FaultLawLemmas.{good-passed}
use Rattle.sg_target.proofs.laws.only_passed_commands_end_with_good.Goals as goal

pub returns : goal.returns
returns c = good-passed
