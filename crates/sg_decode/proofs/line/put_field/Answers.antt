use Rattle.sg_wire.proofs.PrintingLemmas.{Prints-on}
use Rattle.sg_decode.proofs.line.put_field.Goals as goal

pub returns : goal.returns
returns g c = Prints-on c.put.ensures c.put_text.ensures
