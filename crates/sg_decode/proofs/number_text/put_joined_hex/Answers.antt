use Rattle.sg_wire.proofs.PrintingLemmas.{Prints-nil}
use Rattle.hex.specs.Hex.{encode_with}
use Rattle.sg_decode.proofs.TextLemmas.{Prints-hex}
use Rattle.sg_decode.proofs.number_text.put_joined_hex.Goals as goal

pub loop-byte-init : goal.loop-byte-init
unfolding encode_with
loop-byte-init g c = Prints-nil _

pub loop-byte-preserved : goal.loop-byte-preserved
loop-byte-preserved g c =
    Prints-hex _ _ _ _ _ _ _ c.loop-byte-test.true c.loop-byte.invariant c.digits_of.ensures
    c.put.ensures
