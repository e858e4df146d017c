use Rattle.sg_fencing.proofs.OldKeyLemmas.{old-keys-refused}
use Rattle.sg_fencing.proofs.laws.old_keys_are_refused.Goals as goal

pub returns : goal.returns
returns c = old-keys-refused
