use Rattle.sg_journal.proofs.Heads.{found_nothing}
use Rattle.sg_journal.proofs.laws.no_bytes_have_no_batches.Goals as goal

pub returns : goal.returns
returns c = found_nothing
