use Rattle.sg_store.proofs.WriteLemmas.{block-filled}
use Rattle.sg_store.proofs.laws.a_fill_puts_one_block_at_each_address_of_its_range.Goals as goal

pub returns : goal.returns
returns c = block-filled
