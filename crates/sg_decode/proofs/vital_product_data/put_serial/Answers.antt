use Rattle.sg_wire.proofs.PrintingLemmas.{Prints-on}
use Rattle.sg_decode.proofs.vital_product_data.put_serial.Goals as goal

pub returns : goal.returns
returns g c = Prints-on c.put.ensures (Prints-on c.put_bracketed.ensures c.put-2.ensures)
