use Rattle.sg_run.proofs.DeliversLemmas.{refuses}
use Rattle.sg_run.proofs.laws.a_run_refuses_a_script_past_the_limit.Goals as goal

pub returns : goal.returns
returns c = refuses
