use Rattle.sg_target.proofs.FoundLemmas.{found-changes-nothing}
use Rattle.sg_target.proofs.laws.found_refusals_change_nothing.Goals as goal

pub returns : goal.returns
returns c = found-changes-nothing
