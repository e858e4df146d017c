use Rattle.std.proofs.Common.{◌∷◌, ◌+◌, List, ℕ, length, length-set, ap, sym, subst, ◌∙◌, arith}
use Rattle.sg_pool.specs.Chains.{chain, AreBelow}
use Rattle.sg_pool.specs.Slots.{Slots, free_slots}
use Rattle.sg_table.specs.Occurrences.{occurrences}
use Rattle.sg_pool.proofs.ChainLemmas.{chain-given, given-below}
use Rattle.sg_pool.proofs.FreeLemmas.{length-free, free-more, given-none}
use Rattle.sg_pool.proofs.pool.Pool.give.Goals as goal

pub overflow_add-self : goal.overflow_add-self
overflow_add-self c =
    let p = c.self.inside in
    let free = ap (λ (s : Slots). length s.free) c.self.view_is in
    record {
      fits = omega (
        arith,
        c.requires.room,
        free,
        length-free p.next p.first_given p.given_count p.fresh c.self.invariant.2,
      );
    }

pub invariant_of-self : goal.invariant_of-self
invariant_of-self c =
    let p = c.self.inside in
    let slot = c.args.slot in
    let low = ap (λ (s : Slots). length s.blocks) c.self.view_is in
    let none = given-none p.next p.first_given p.given_count p.fresh slot
    (ap (λ (s : Slots). occurrences slot s.free) c.self.view_is ∙ c.requires.used) in
    let linked = ap length c.set.ensures ∙ length-set p.next slot p.first_given in
    let linked' = length-set p.next slot p.first_given in (
      omega (arith, linked, c.self.invariant.0),
      subst (λ (xs : List ℕ). AreBelow (length xs) (chain xs slot (p.given_count + 1))) (sym c.set.ensures)
          (rw (
            linked',
            chain-given p.next slot p.first_given p.given_count
                (omega (arith, low, c.self.invariant.0, c.requires.slot)) none,
          )
          (given-below (length p.next) slot _
          (omega (arith, low, c.self.invariant.0, c.requires.slot)) c.self.invariant.1)),
      omega (arith, linked, c.self.invariant.2),
      omega (arith, linked, c.self.invariant.3),
      omega (arith, low, c.requires.slot, c.self.invariant.0, c.self.invariant.3),
    )

pub returns-clause-free : goal.returns-clause-free
returns-clause-free c =
    let p = c.self.inside in
    let slot = c.args.slot in
    let low = ap (λ (s : Slots). length s.blocks) c.self.view_is in
    ap (λ (xs : List ℕ). free_slots xs slot (p.given_count + 1) p.fresh) c.set.ensures
    ∙ free-more p.next slot p.first_given p.given_count p.fresh
    (omega (arith, low, c.self.invariant.0, c.requires.slot))
    (ap (λ (s : Slots). occurrences slot s.free) c.self.view_is ∙ c.requires.used)
    ∙ ap (λ (s : Slots). slot ∷ s.free) c.self.view_is
