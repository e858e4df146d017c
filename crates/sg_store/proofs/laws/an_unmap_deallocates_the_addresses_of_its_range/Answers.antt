use Rattle.sg_store.proofs.UnmapLemmas.{status-unmapped}
use Rattle.sg_store.proofs.laws.an_unmap_deallocates_the_addresses_of_its_range.Goals as goal

pub returns : goal.returns
returns c = status-unmapped
