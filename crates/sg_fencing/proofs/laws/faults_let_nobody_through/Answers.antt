use Rattle.sg_fencing.proofs.FaultRunLemmas.{fenced-out}
use Rattle.sg_fencing.proofs.OutsiderLemmas.{outside}
use Rattle.sg_fencing.proofs.laws.faults_let_nobody_through.Goals as goal

pub returns : goal.returns
returns c disk initiator cdb data_out w fenced =
    fenced-out c.faults_only_drop_or_shorten.ensures c.refused_commands_stay_refused.ensures
    c.others_are_refused.ensures c.commands_have_their_class.ensures disk initiator
    (outside disk.state initiator fenced) w cdb data_out
