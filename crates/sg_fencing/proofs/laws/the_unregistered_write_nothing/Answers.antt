use Rattle.sg_wire.specs.declared.command.Class.TheVariants.{Writes}
use Rattle.sg_fencing.specs.Registrants.{is_reserved}
use Rattle.sg_fencing.proofs.OutsiderRunLemmas.{not-served, writes-refused}
use Rattle.sg_fencing.proofs.laws.the_unregistered_write_nothing.Goals as goal

pub returns : goal.returns
returns c = not-served is_reserved Writes (writes-refused c.others_are_refused.ensures)
