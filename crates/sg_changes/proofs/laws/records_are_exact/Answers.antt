use Rattle.sg_changes.proofs.RecordLemmas.{change_exact}
use Rattle.sg_changes.proofs.laws.records_are_exact.Goals as goal

pub returns : goal.returns
returns c = change_exact
