use Rattle.sg_pages.proofs.SeedLemmas.{serial-of-one}
use Rattle.sg_pages.proofs.laws.seeds_have_serials.Goals as goal

pub returns : goal.returns
returns c = serial-of-one
