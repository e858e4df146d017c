use Rattle.sg_store.proofs.WriteLemmas.{block-anchored}
use Rattle.sg_store.proofs.laws.an_anchoring_zeroes_the_blocks_of_its_range.Goals as goal

pub returns : goal.returns
returns c = block-anchored
