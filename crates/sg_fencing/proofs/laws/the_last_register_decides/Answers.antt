use Rattle.sg_fencing.proofs.PersistLemmas.{the-last-decides}
use Rattle.sg_fencing.proofs.laws.the_last_register_decides.Goals as goal

pub returns : goal.returns
returns c = the-last-decides c.refused_changes_nothing.ensures
