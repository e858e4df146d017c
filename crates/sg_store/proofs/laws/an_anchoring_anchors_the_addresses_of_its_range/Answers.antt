use Rattle.sg_store.proofs.WriteLemmas.{status-anchored}
use Rattle.sg_store.proofs.laws.an_anchoring_anchors_the_addresses_of_its_range.Goals as goal

pub returns : goal.returns
returns c = status-anchored
