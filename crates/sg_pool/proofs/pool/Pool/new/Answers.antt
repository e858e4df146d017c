use Rattle.std.proofs.Common.{◌≡◌, ◌-◌, ℕ, List, length, ap, arith}
use Rattle.std.proofs.lemmas.List.{length-replicate}
use Rattle.std.specs.List.{range_with_len}
use Rattle.sg_store.specs.Disk.{zero_block}
use Rattle.sg_pool.specs.Chains.{chain, AreBelow}
use Rattle.sg_pool.proofs.pool.Pool.new.Goals as goal

pub invariant_of-result : goal.invariant_of-result
unfolding chain AreBelow
invariant_of-result c = (
  omega (
    arith,
    ap length c.in_ok-new.ensures,
    length-replicate {A = List ℕ} c.args.count zero_block,
    ap length c.in_ok-new-2.ensures,
    length-replicate {A = ℕ} c.args.count 0,
  ),
  tt,
  omega arith,
  omega (arith, ap length c.in_ok-new-2.ensures, length-replicate {A = ℕ} c.args.count 0, c.requires),
  omega arith,
)

pub returns-clause-free : goal.returns-clause-free
unfolding chain
returns-clause-free c =
    let all : length c.in_ok-new-2.field-0 - 0 ≡ c.args.count =
    omega (arith, ap length c.in_ok-new-2.ensures, length-replicate {A = ℕ} c.args.count 0) in
    ap (range_with_len 0) all
