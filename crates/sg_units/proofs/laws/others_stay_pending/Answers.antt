use Rattle.sg_units.proofs.AttentionLemmas.{stays_pending}
use Rattle.sg_units.proofs.laws.others_stay_pending.Goals as goal

pub returns : goal.returns
returns c = stays_pending
