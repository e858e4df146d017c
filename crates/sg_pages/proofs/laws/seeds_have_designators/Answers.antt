use Rattle.sg_pages.proofs.SeedLemmas.{designator-of-one}
use Rattle.sg_pages.proofs.laws.seeds_have_designators.Goals as goal

pub returns : goal.returns
returns c = designator-of-one
