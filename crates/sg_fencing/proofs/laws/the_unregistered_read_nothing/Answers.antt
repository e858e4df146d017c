use Rattle.sg_wire.specs.declared.command.Class.TheVariants.{Reads}
use Rattle.sg_fencing.proofs.OutsiderRunLemmas.{excludes, not-served, reads-refused}
use Rattle.sg_fencing.proofs.laws.the_unregistered_read_nothing.Goals as goal

pub returns : goal.returns
returns c = not-served excludes Reads (reads-refused c.others_are_refused.ensures)
