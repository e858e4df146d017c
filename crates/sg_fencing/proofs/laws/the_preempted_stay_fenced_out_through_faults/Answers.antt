use Rattle.sg_target.specs.Runs.{armed_step_of}
use Rattle.sg_fencing.proofs.FaultRunLemmas.{stays-fenced-out, unregistered-by}
use Rattle.sg_fencing.proofs.laws.the_preempted_stay_fenced_out_through_faults.Goals as goal

pub returns : goal.returns
returns c disk preempt initiator w its =
    stays-fenced-out c.faults_only_drop_or_shorten.ensures c.limits_are_kept.ensures initiator
    c.refused_commands_stay_refused.ensures c.others_are_refused.ensures
    c.commands_have_their_class.ensures (armed_step_of disk preempt).after
    (c.limits_are_kept.ensures.armed disk preempt.initiator preempt.cdb.now preempt.data_out.now w)
    (unregistered-by c.only_passed_commands_end_with_good.ensures c.one_key_each.ensures disk preempt
    initiator w its)
