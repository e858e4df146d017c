use Rattle.sg_faults.specs.Laws.{meets_none}
use Rattle.sg_target.proofs.FaultLawLemmas.{untouched-step}
use Rattle.sg_target.proofs.laws.only_met_commands_change.Goals as goal

pub returns : goal.returns
returns c = λ disk i cdb data_out e.
    untouched-step meets_none c.unmet_faults_do_nothing.ensures i cdb disk data_out e
