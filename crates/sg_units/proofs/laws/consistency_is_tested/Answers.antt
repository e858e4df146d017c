use Rattle.sg_units.proofs.RestoredLemmas.{consistent-passes, consistent-shown}
use Rattle.sg_units.proofs.laws.consistency_is_tested.Goals as goal

pub returns : goal.returns
returns c = record { passes = consistent-passes; shows = consistent-shown }
