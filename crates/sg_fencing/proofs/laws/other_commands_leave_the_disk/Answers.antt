use Rattle.sg_fencing.proofs.DiskLemmas.{command-leaves}
use Rattle.sg_fencing.proofs.laws.other_commands_leave_the_disk.Goals as goal

pub returns : goal.returns
returns c = command-leaves
