use Rattle.sg_decode.specs.Values.{printable}
use Rattle.sg_decode.proofs.TextLemmas.{Prints-map}
use Rattle.sg_decode.proofs.number_text.put_printable.Goals as goal

pub loop-byte-preserved : goal.loop-byte-preserved
loop-byte-preserved g c =
    Prints-map printable _ _ _ _ _ _ _ c.loop-byte-test.true c.loop-byte.invariant
    c.printable.ensures c.put.ensures
