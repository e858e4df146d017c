use Rattle.sg_pages.proofs.SeedLemmas.{makes-identity}
use Rattle.sg_pages.proofs.laws.seeds_make_identities.Goals as goal

pub returns : goal.returns
returns c = makes-identity
