use Rattle.std.proofs.Common.{arith, rules}
use Rattle.sg_target.proofs.OrWriteLemmas.{bits-set}
use Rattle.sg_target.proofs.or_write.set_bits.Goals as goal

pub returns : goal.returns
returns c =
    bits-set 512 c.args.block.now c.args.bytes.now c.loop-i.block (search rules) c.requires (search rules)
    (λ k lt. c.loop-i.invariant.done k (omega (arith, c.loop-i-test.false)))
