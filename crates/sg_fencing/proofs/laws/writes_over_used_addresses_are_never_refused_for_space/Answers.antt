use Rattle.sg_fencing.proofs.SpaceLemmas.{never-for-space}
use Rattle.sg_fencing.proofs.laws.writes_over_used_addresses_are_never_refused_for_space.Goals as goal

pub returns : goal.returns
returns c = never-for-space c.writes_over_used_addresses_have_space.ensures
