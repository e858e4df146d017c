use Rattle.sg_pages.proofs.ChangeLemmas.{only_changeable}
use Rattle.sg_pages.proofs.laws.only_changeable_bits_change.Goals as goal

pub returns : goal.returns
returns c = only_changeable
