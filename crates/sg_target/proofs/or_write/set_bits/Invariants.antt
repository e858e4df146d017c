use Rattle.std.proofs.Common.{◌≡◌, ℕ, ◌<◌, ◌≤◌, get_or, bit_or, length}
use Rattle.sg_target.proofs.or_write.set_bits.Given as goal

-- the bytes before the index have their bits, and the others are as they were
abbrev pub invariant-loop-i : goal.invariant-loop-i
invariant-loop-i l = record {
  long : length l.block ≡ length l.fn.block;
  done : (k : ℕ) → k < l.i → get_or l.block k 0 ≡ bit_or (get_or l.fn.block k 0) (get_or l.bytes k 0);
  left : (k : ℕ) → l.i ≤ k → get_or l.block k 0 ≡ get_or l.fn.block k 0;
}
