use Rattle.sg_target.proofs.OrWriteLawLemmas.{or-writes-set}
use Rattle.sg_target.proofs.laws.or_writes_set_the_bits_of_their_data.Goals as goal

pub returns : goal.returns
returns c = or-writes-set c.remapping_takes_what_is_needed.ensures
