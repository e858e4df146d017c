use Rattle.sg_wire.proofs.PrintingLemmas.{Prints-on}
use Rattle.sg_decode.specs.SenseText.{code_text}
use Rattle.sg_decode.proofs.sense.put_code.Goals as goal

pub returns : goal.returns
unfolding code_text
returns g c =
    Prints-on c.put.ensures (Prints-on c.put_hex_byte.ensures
    (Prints-on c.put-2.ensures c.put_hex_byte-2.ensures))
