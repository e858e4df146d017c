use Rattle.sg_kept.proofs.CommandLemmas.{commands-make}
use Rattle.sg_kept.proofs.laws.commands_make_their_changes.Goals as goal

pub returns : goal.returns
returns c = commands-make c.limits_are_kept.ensures
