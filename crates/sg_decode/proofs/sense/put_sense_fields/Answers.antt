use Rattle.sg_wire.proofs.PrintingLemmas.{Prints-on}
use Rattle.sg_decode.specs.SenseText.{fields_text}
use Rattle.sg_decode.proofs.sense.put_sense_fields.Goals as goal

pub returns : goal.returns
unfolding fields_text
returns g c =
    Prints-on c.put_key.ensures (Prints-on c.put_code.ensures
    (Prints-on c.put_information.ensures (Prints-on c.put_pointer.ensures c.put.ensures)))
