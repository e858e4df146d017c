use Rattle.sg_units.proofs.LawLemmas.{allowed_sharers}
use Rattle.sg_units.proofs.laws.sharers_are_allowed.Goals as goal

pub returns : goal.returns
returns c state reservation i class e h = allowed_sharers state reservation i class e h
