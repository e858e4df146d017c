use Rattle.sg_fencing.proofs.GroupLemmas.{group-runs-alike}
use Rattle.sg_fencing.proofs.laws.equal_views_of_a_group_run_alike.Goals as goal

pub returns : goal.returns
returns c = group-runs-alike
