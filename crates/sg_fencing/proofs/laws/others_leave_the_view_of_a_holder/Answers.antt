use Rattle.sg_fencing.proofs.OthersLemmas.{others-keep}
use Rattle.sg_fencing.proofs.laws.others_leave_the_view_of_a_holder.Goals as goal

pub returns : goal.returns
returns c state holder other cdb data_out w differ before after =
    (others-keep c.limits_are_kept.ensures c.others_are_refused.ensures
    c.commands_have_their_class.ensures state holder other cdb data_out w differ before after).left
