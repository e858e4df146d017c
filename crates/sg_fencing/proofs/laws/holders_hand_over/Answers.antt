use Rattle.sg_fencing.proofs.HandOverLemmas.{handed-over}
use Rattle.sg_fencing.proofs.laws.holders_hand_over.Goals as goal

pub returns : goal.returns
returns c = handed-over
