use Rattle.sg_fencing.proofs.VerifyLemmas.{verifies-compare}
use Rattle.sg_fencing.proofs.comparisons.verifies_compare_their_blocks.Goals as goal

pub returns : goal.returns
returns c = verifies-compare
