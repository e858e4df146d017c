use Rattle.sg_journal.proofs.Whole.{cut_off}
use Rattle.sg_journal.proofs.laws.a_batch_cut_short_does_not_count.Goals as goal

pub returns : goal.returns
returns c = cut_off
