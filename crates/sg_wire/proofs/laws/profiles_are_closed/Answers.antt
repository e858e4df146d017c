use Rattle.sg_wire.proofs.ProfileLemmas.{is-in}
use Rattle.sg_wire.proofs.laws.profiles_are_closed.Goals as goal

pub returns : goal.returns
returns c = is-in
