use Rattle.sg_fencing.proofs.OutsiderLemmas.{outside, outsider-spares}
use Rattle.sg_fencing.proofs.laws.the_unregistered_leave_every_view.Goals as goal

pub returns : goal.returns
returns c state initiator other cdb data_out w differ fenced spared =
    (outsider-spares c.others_are_refused.ensures c.commands_have_their_class.ensures state initiator
    other differ (outside state other fenced) w cdb data_out spared).left
