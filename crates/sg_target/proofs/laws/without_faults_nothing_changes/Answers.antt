use Rattle.sg_target.proofs.ArmedLemmas.{step-unarmed}
use Rattle.sg_target.proofs.laws.without_faults_nothing_changes.Goals as goal

pub returns : goal.returns
returns c = step-unarmed c.unarmed_faults_do_nothing.ensures
