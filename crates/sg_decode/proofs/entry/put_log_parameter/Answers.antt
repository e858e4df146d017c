use Rattle.sg_wire.proofs.PrintingLemmas.{Prints-on}
use Rattle.sg_decode.proofs.entry.put_log_parameter.Goals as goal

pub returns : goal.returns
returns g c = Prints-on c.put_line.ensures c.put_fitting.ensures
