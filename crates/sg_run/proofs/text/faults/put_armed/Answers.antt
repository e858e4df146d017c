use Rattle.sg_wire.proofs.PrintingLemmas.{Prints-on}
use Rattle.sg_run.specs.FaultText.{armed_text}
use Rattle.sg_run.proofs.text.faults.put_armed.Goals as goal

pub returns : goal.returns
unfolding armed_text
returns g c =
    Prints-on c.put.ensures (Prints-on c.put_number.ensures (Prints-on c.put-2.ensures
    (Prints-on c.put_fault.ensures (Prints-on c.put-3.ensures c.put_all_left.ensures))))
