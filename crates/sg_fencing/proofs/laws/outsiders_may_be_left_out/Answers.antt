use Rattle.sg_fencing.proofs.InsideLemmas.{left-out}
use Rattle.sg_fencing.proofs.laws.outsiders_may_be_left_out.Goals as goal

pub returns : goal.returns
returns c =
    left-out c.limits_are_kept.ensures c.others_are_refused.ensures c.commands_have_their_class.ensures
