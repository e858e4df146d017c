use Rattle.sg_wire.proofs.ClassLemmas.{class-of_command}
use Rattle.sg_wire.proofs.laws.commands_have_their_class.Goals as goal

pub returns : goal.returns
returns c = class-of_command
