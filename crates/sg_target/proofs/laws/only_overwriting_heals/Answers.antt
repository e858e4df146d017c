use Rattle.sg_target.proofs.HealingLemmas.{only-overwriting-heals}
use Rattle.sg_target.proofs.laws.only_overwriting_heals.Goals as goal

pub returns : goal.returns
returns c = only-overwriting-heals
