use Rattle.sg_target.proofs.TellingLemmas.{crossings-told}
use Rattle.sg_target.proofs.laws.crossings_are_reported.Goals as goal

pub returns : goal.returns
returns c = crossings-told
