use Rattle.sg_wire.proofs.PrintingLemmas.{Prints-on}
use Rattle.sg_decode.proofs.value.put_address.Goals as goal

pub returns : goal.returns
returns g c = Prints-on c.put.ensures (rw c.sixteen_digits.ensures at c.put-2.ensures)
