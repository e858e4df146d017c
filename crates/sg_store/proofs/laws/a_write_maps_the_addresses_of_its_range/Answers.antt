use Rattle.sg_store.proofs.WriteLemmas.{status-written}
use Rattle.sg_store.proofs.laws.a_write_maps_the_addresses_of_its_range.Goals as goal

pub returns : goal.returns
returns c = status-written
