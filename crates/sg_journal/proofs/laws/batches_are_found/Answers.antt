use Rattle.sg_journal.proofs.Whole.{batches_found}
use Rattle.sg_journal.proofs.laws.batches_are_found.Goals as goal

pub returns : goal.returns
returns c = batches_found
