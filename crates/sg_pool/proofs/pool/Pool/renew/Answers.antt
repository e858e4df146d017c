use Rattle.std.proofs.Common.{◌≡◌, ◌-◌, length, ap, ◌∙◌, arith}
use Rattle.std.specs.List.{range_with_len}
use Rattle.sg_pool.specs.Chains.{chain, AreBelow}
use Rattle.sg_pool.specs.Slots.{Slots}
use Rattle.sg_pool.proofs.pool.Pool.renew.Goals as goal

pub invariant_of-self : goal.invariant_of-self
unfolding chain AreBelow
invariant_of-self c =
    (c.self.invariant.0, tt, omega arith, c.self.invariant.3, c.self.invariant.4)

pub returns : goal.returns
unfolding chain
returns c =
    let p = c.self.inside in
    let all : length p.next - 0 ≡ length p.next = omega arith in
    ap (λ n. record {
      blocks = p.blocks;
      next = p.next;
      free = range_with_len 0 n;
      links = p.links;
    }) all
    ∙ ap (λ (s : Slots). record s { free = range_with_len 0 (length s.next) }) c.self.view_is
