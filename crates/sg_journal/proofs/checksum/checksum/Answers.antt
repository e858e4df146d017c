use Rattle.std.proofs.Common.{arith}
use Rattle.sg_journal.proofs.checksum.checksum.Goals as goal

pub overflow_mul-result : goal.overflow_mul-result
overflow_mul-result c = omega (arith, c.from-2.ensures, c.loop-byte.invariant.sum_of_sums_is)
