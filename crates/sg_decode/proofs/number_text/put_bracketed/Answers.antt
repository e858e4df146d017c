use Rattle.sg_wire.proofs.PrintingLemmas.{Prints-on}
use Rattle.sg_decode.proofs.number_text.put_bracketed.Goals as goal

pub returns : goal.returns
returns g c = Prints-on c.put.ensures (Prints-on c.put_printable.ensures c.put-2.ensures)
