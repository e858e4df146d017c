use Rattle.sg_fencing.proofs.FaultRunLemmas.{stays-fenced-out}
use Rattle.sg_fencing.proofs.laws.the_unregistered_stay_fenced_out_through_faults.Goals as goal

pub returns : goal.returns
returns c disk initiator w unknown =
    stays-fenced-out c.faults_only_drop_or_shorten.ensures c.limits_are_kept.ensures initiator
    c.refused_commands_stay_refused.ensures c.others_are_refused.ensures
    c.commands_have_their_class.ensures disk w unknown
