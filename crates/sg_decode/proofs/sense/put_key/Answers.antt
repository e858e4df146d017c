use Rattle.std.proofs.Common.{◌≡◌, None, sym}
use Rattle.sg_wire.proofs.PrintingLemmas.{Prints-on}
use Rattle.sg_decode.specs.SenseText.{key_name}
use Rattle.sg_decode.proofs.sense.put_key.Goals as goal

pub returns-in-None : goal.returns-in-None
returns-in-None g c =
    let unnamed : key_name c.args.key ≡ None = sym c.in-None.ensures in
    rw unnamed (Prints-on c.put-in-None.ensures c.put_hex_byte.ensures)
