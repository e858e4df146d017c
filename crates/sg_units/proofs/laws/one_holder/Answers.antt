use Rattle.sg_units.proofs.LawLemmas.{one_holder}
use Rattle.sg_units.proofs.laws.one_holder.Goals as goal

pub returns : goal.returns
returns c state reservation h e one = one_holder state reservation h e one
