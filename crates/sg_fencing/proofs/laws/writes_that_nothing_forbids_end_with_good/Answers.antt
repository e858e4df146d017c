use Rattle.sg_fencing.proofs.WriteLemmas.{free-writes}
use Rattle.sg_fencing.proofs.laws.writes_that_nothing_forbids_end_with_good.Goals as goal

pub returns : goal.returns
returns c =
    free-writes c.commands_have_their_class.ensures c.writes_over_used_addresses_have_space.ensures
