use Rattle.sg_pages.proofs.ThresholdLemmas.{more-used}
use Rattle.sg_pages.proofs.laws.only_more_used_blocks_cross.Goals as goal

pub returns : goal.returns
returns c = more-used
