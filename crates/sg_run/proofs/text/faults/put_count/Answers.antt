use Rattle.sg_wire.proofs.PrintingLemmas.{Prints-on}
use Rattle.sg_run.proofs.text.faults.put_count.Goals as goal

pub returns : goal.returns
returns g c =
    Prints-on c.put_labelled_number.ensures (Prints-on c.put.ensures
    (Prints-on c.put_skip_left.ensures (Prints-on c.put_times.ensures c.put-2.ensures)))
