use Rattle.sg_fencing.proofs.UnitLemmas.{unit-left}
use Rattle.sg_fencing.proofs.laws.other_commands_leave_the_unit.Goals as goal

pub returns : goal.returns
returns c = unit-left
