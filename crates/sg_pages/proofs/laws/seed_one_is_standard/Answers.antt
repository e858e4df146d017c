use Rattle.std.proofs.Common.{refl}
use Rattle.hex.proofs.OnLiterals.{hex_on_literals}
use Rattle.sg_pages.proofs.laws.seed_one_is_standard.Goals as goal

pub returns : goal.returns
unfolding hex_on_literals
returns c = refl
