use Rattle.std.proofs.Common.{ℕ, arith}
use Rattle.std.proofs.lemmas.List.{length-replicate}
use Rattle.sg_pool.proofs.LeapLemmas.{none-derived, none-leaps}
use Rattle.sg_pool.proofs.links.Links.new.Goals as goal

pub invariant_of-result : goal.invariant_of-result
invariant_of-result c = rw (
  c.in_ok-zero_numbers.ensures,
  c.in_ok-zero_numbers-2.ensures,
  c.in_ok-zero_lengths.ensures,
  c.in_ok-zero_numbers-3.ensures,
  c.in_ok-zero_numbers-4.ensures,
  c.in_ok-zero_lengths-2.ensures,
  c.in_ok-zero_numbers-5.ensures,
  c.in_ok-zero_numbers-6.ensures,
) (
  omega (arith, length-replicate {A = ℕ} c.args.count 0, c.requires),
  none-derived c.args.count,
  none-leaps c.args.count,
)
