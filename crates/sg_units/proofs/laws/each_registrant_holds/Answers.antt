use Rattle.sg_units.proofs.LawLemmas.{held_by_all}
use Rattle.sg_units.proofs.laws.each_registrant_holds.Goals as goal

pub returns : goal.returns
returns c state reservation h e all = held_by_all state reservation h e all
