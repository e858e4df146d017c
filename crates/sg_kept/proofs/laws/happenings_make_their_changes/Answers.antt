use Rattle.sg_kept.proofs.HappeningLemmas.{happenings-make}
use Rattle.sg_kept.proofs.laws.happenings_make_their_changes.Goals as goal

pub returns : goal.returns
returns c = happenings-make
