use Rattle.sg_target.proofs.CommandLemmas.{used-have-space}
use Rattle.sg_target.proofs.laws.writes_over_used_addresses_have_space.Goals as goal

pub returns : goal.returns
returns c = used-have-space c.remapping_takes_what_is_needed.ensures
