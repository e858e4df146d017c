use Rattle.sg_store.proofs.UnmapLemmas.{block-unmapped}
use Rattle.sg_store.proofs.laws.an_unmap_zeroes_the_blocks_of_its_range.Goals as goal

pub returns : goal.returns
returns c = block-unmapped
