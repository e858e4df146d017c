use Rattle.sg_store.proofs.WriteLemmas.{block-written}
use Rattle.sg_store.proofs.laws.a_write_replaces_the_blocks_of_its_range.Goals as goal

pub returns : goal.returns
returns c = block-written
