use Rattle.sg_wire.proofs.PrintingLemmas.{Prints-on}
use Rattle.sg_decode.proofs.ItemLemmas.{as_present-text}
use Rattle.sg_decode.proofs.items.show_dump.Goals as goal

pub returns : goal.returns
returns g c =
    rw as_present-text (Prints-on (rw c.present_bytes.ensures.bytes at c.put_hex.ensures)
    c.put_truncated.ensures)
