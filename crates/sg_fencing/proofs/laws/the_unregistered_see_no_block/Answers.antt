use Rattle.sg_fencing.proofs.OutsiderLemmas.{outside, shut}
use Rattle.sg_fencing.proofs.UnseenLemmas.{unseen}
use Rattle.sg_fencing.proofs.laws.the_unregistered_see_no_block.Goals as goal

pub returns : goal.returns
returns c state contents initiator cdb data_out fenced exclusive none =
    let no = shut c.others_are_refused.ensures state initiator (outside state initiator fenced) in
    unseen c.commands_have_their_class.ensures state contents initiator (no.reads exclusive) no.writes
    cdb data_out none
