use Rattle.sg_file.proofs.StaysLemmas.{stays}
use Rattle.sg_file.proofs.laws.what_is_seen_may_stay.Goals as goal

pub returns : goal.returns
returns c = stays
