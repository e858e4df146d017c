use Rattle.sg_run.proofs.DeliversLemmas.{delivers}
use Rattle.sg_run.proofs.laws.a_run_delivers_a_known_script.Goals as goal

pub returns : goal.returns
returns c = delivers
