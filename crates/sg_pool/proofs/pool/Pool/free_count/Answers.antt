use Rattle.std.proofs.Common.{length, ap, arith}
use Rattle.sg_pool.specs.Slots.{Slots}
use Rattle.sg_pool.proofs.FreeLemmas.{length-free}
use Rattle.sg_pool.proofs.pool.Pool.free_count.Goals as goal

pub returns : goal.returns
returns c =
    let p = c.self.inside in
    let free = ap (λ (s : Slots). length s.free) c.self.view_is in
    omega (
      arith,
      free,
      c.count.ensures,
      length-free p.next p.first_given p.given_count p.fresh c.self.invariant.2,
    )
