use Rattle.std.proofs.Common.{arith, refl}
use Rattle.sg_tools.proofs.HexWordLemmas.{no_pair, next_pair, all_pairs}
use Rattle.sg_tools.proofs.hex_word.decode.Goals as goal

pub loop-i-init : goal.loop-i-init
loop-i-init c = no_pair c.args.digits.now c.args.bytes.now

pub loop-i-preserved : goal.loop-i-preserved
loop-i-preserved c =
    next_pair c.loop-i.are_digits c.args.digits.now c.loop-i.bytes c.loop-i.i _ _ _ (omega arith)
    (omega arith)
    c.digit_value-high.ensures c.digit_value-low.ensures refl c.loop-i.invariant

pub returns : goal.returns
returns c = all_pairs c.loop-i.are_digits c.args.digits.now c.loop-i.bytes c.loop-i.i (omega arith)
    (omega arith) c.loop-i.invariant
