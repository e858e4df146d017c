use Rattle.sg_fencing.proofs.GroupLemmas.{group-alike}
use Rattle.sg_fencing.proofs.laws.equal_views_of_a_group_end_alike.Goals as goal

pub returns : goal.returns
returns c = group-alike
