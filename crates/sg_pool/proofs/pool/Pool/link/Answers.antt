use Rattle.std.proofs.Common.{List, ℕ, length, length-set, set, ap, sym, subst, ◌∙◌, arith}
use Rattle.sg_pool.specs.Chains.{chain, AreBelow}
use Rattle.sg_pool.specs.Slots.{Slots, free_slots}
use Rattle.sg_table.specs.Occurrences.{occurrences}
use Rattle.sg_pool.proofs.ChainLemmas.{chain-set}
use Rattle.sg_pool.proofs.FreeLemmas.{free-set, given-none}
use Rattle.sg_pool.proofs.pool.Pool.link.Goals as goal

pub invariant_of-self : goal.invariant_of-self
invariant_of-self c =
    let p = c.self.inside in
    let free = ap (λ (s : Slots). s.free) c.self.view_is in
    let same = chain-set p.next c.args.slot c.args.next p.first_given p.given_count
    (given-none p.next p.first_given p.given_count p.fresh c.args.slot
    (ap (occurrences c.args.slot) free ∙ c.requires.used)) in
    let linked' = length-set p.next c.args.slot c.args.next in
    let linked = ap length c.set.ensures ∙ linked' in (
      omega (arith, linked, c.self.invariant.0),
      subst (λ (xs : List ℕ). AreBelow (length xs) (chain xs p.first_given p.given_count))
          (sym c.set.ensures) (rw (same, linked') c.self.invariant.1),
      omega (arith, linked, c.self.invariant.2),
      omega (arith, linked, c.self.invariant.3),
      c.self.invariant.4,
    )

pub returns : goal.returns
returns c =
    let p = c.self.inside in
    let free = ap (λ (s : Slots). s.free) c.self.view_is in
    let same = free-set p.next c.args.slot c.args.next p.first_given p.given_count p.fresh
    (ap (occurrences c.args.slot) free ∙ c.requires.used) in
    ap (λ (next : List ℕ). record {
      blocks = p.blocks;
      next = next;
      free = free_slots next p.first_given p.given_count p.fresh;
      links = p.links;
    }) c.set.ensures
    ∙ ap (λ xs. record {
      blocks = p.blocks;
      next = set p.next c.args.slot c.args.next;
      free = xs;
      links = p.links;
    }) same
    ∙ ap (λ (s : Slots). record s { next = set s.next c.args.slot c.args.next }) c.self.view_is
