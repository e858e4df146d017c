use Rattle.sg_wire.proofs.PrintingLemmas.{Prints-on}
use Rattle.sg_run.proofs.text.put_line_header.Goals as goal

pub returns : goal.returns
returns g c = Prints-on c.put.ensures
    (Prints-on c.put_number.ensures
    (Prints-on c.put-2.ensures (Prints-on c.put-3.ensures c.put-4.ensures)))
