use Rattle.sg_wire.proofs.PrintingLemmas.{Prints-on}
use Rattle.sg_decode.proofs.value.put_digits.Goals as goal

pub returns : goal.returns
returns g c = Prints-on c.put.ensures c.put_joined_hex.ensures
