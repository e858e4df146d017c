use Rattle.sg_fencing.proofs.MiscompareLemmas.{miscompares}
use Rattle.sg_fencing.proofs.exchanges.miscompares_point_to_the_first_difference.Goals as goal

pub returns : goal.returns
returns c = miscompares c.commands_have_their_class.ensures
