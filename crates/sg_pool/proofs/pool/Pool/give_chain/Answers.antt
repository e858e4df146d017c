use Rattle.std.proofs.Common.{◌+◌, List, ℕ, length, length-set, ap, sym, subst, ◌∙◌, arith}
use Rattle.sg_pool.specs.Chains.{chain, AreBelow}
use Rattle.sg_pool.specs.Slots.{Slots, free_slots}
use Rattle.sg_pool.proofs.LinkLemmas.{slot-low}
use Rattle.sg_pool.proofs.FreeLemmas.{length-free, joined, joined-below}
use Rattle.sg_pool.proofs.pool.Pool.give_chain.Goals as goal

pub overflow_add-self : goal.overflow_add-self
overflow_add-self c =
    let p = c.self.inside in
    let free = ap (λ (s : Slots). length s.free) c.self.view_is in
    record {
      fits = omega (
        arith,
        c.requires.room,
        free,
        length-free p.next p.first_given p.given_count p.fresh c.self.invariant.2,
      );
    }

pub invariant_of-self : goal.invariant_of-self
invariant_of-self c =
    let p = c.self.inside in
    let linked = ap length c.set.ensures ∙ length-set p.next c.args.last p.first_given in
    let below = joined-below p.next c.args.self.now.next c.args.self.now.free c.args.first c.args.last
    c.args.count p.first_given p.given_count p.fresh (ap (λ (s : Slots). s.next) c.self.view_is)
    (ap (λ (s : Slots). s.free) c.self.view_is)
    c.requires.chain c.requires.last c.requires.once c.requires.slots c.self.invariant.1 in (
      omega (arith, linked, c.self.invariant.0),
      subst (λ (xs : List ℕ). AreBelow (length xs) (chain xs c.args.first (p.given_count + c.args.count)))
          (sym c.set.ensures) below,
      omega (arith, linked, c.self.invariant.2),
      omega (arith, linked, c.self.invariant.3),
      omega (
        arith,
        ap (λ (s : Slots). length s.next) c.self.view_is,
        slot-low (length c.args.self.now.next) c.args.self.now.next c.args.first c.args.count
            c.requires.chain.not_empty c.requires.slots,
        c.self.invariant.3,
      ),
    )

pub returns-clause-free : goal.returns-clause-free
returns-clause-free c =
    let p = c.self.inside in
    ap (λ (xs : List ℕ). free_slots xs c.args.first (p.given_count + c.args.count) p.fresh) c.set.ensures
    ∙ joined p.next c.args.self.now.next c.args.self.now.free c.args.first c.args.last
    c.args.count p.first_given p.given_count p.fresh (ap (λ (s : Slots). s.next) c.self.view_is)
    (ap (λ (s : Slots). s.free) c.self.view_is)
    c.requires.chain c.requires.last c.requires.once
