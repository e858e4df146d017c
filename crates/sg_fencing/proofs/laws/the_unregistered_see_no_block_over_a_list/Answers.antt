use Rattle.std.proofs.Common.{refl}
use Rattle.sg_target.specs.Effect.{with_contents}
use Rattle.sg_fencing.proofs.UnseenRunLemmas.{unseen-over}
use Rattle.sg_fencing.proofs.laws.the_unregistered_see_no_block_over_a_list.Goals as goal

pub returns : goal.returns
returns c state contents initiator calls stays exclusive none alike =
    unseen-over c.others_are_refused.ensures c.commands_have_their_class.ensures initiator calls state
    (with_contents state contents) refl stays exclusive none alike
