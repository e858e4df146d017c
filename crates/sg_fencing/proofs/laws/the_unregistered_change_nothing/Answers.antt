use Rattle.sg_fencing.proofs.OutsiderRunLemmas.{nothing-changed}
use Rattle.sg_fencing.proofs.laws.the_unregistered_change_nothing.Goals as goal

pub returns : goal.returns
returns c =
    nothing-changed c.limits_are_kept.ensures c.others_are_refused.ensures
    c.commands_have_their_class.ensures
