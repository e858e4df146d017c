use Rattle.sg_units.proofs.AttentionLemmas.{reported_first}
use Rattle.sg_units.proofs.laws.resets_are_reported_first.Goals as goal

pub returns : goal.returns
returns c = reported_first
