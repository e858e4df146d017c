use Rattle.std.proofs.Common.{◌<◌, ◌-◌, ◌∷◌, length, ap, sym, ◌∙◌, arith}
use Rattle.sg_pool.specs.Slots.{Slots, free_slots}
use Rattle.sg_pool.proofs.ChainLemmas.{first-below, rest-below}
use Rattle.sg_pool.proofs.FreeLemmas.{fresh-left, free-fresh, free-given}
use Rattle.sg_pool.proofs.pool.Pool.take.Goals as goal

pub overflow_add-self : goal.overflow_add-self
overflow_add-self c =
    let p = c.self.inside in
    let some = ap (λ (s : Slots). length s.free) c.self.view_is in
    let left = fresh-left p.next p.first_given p.given_count p.fresh c.self.invariant.2
    c.if-self-eq0.true (omega (arith, some, c.requires)) in
    record { fits = omega (arith, left, c.self.invariant.3) }

pub invariant_of-self : goal.invariant_of-self
invariant_of-self c =
    let p = c.self.inside in
    let some = ap (λ (s : Slots). length s.free) c.self.view_is in
    let left = fresh-left p.next p.first_given p.given_count p.fresh c.self.invariant.2
    c.if-self-eq0.true (omega (arith, some, c.requires)) in (
      c.self.invariant.0,
      c.self.invariant.1,
      omega (arith, left),
      c.self.invariant.3,
      c.self.invariant.4,
    )

pub returns-then-self-eq0-clause-free : goal.returns-then-self-eq0-clause-free
returns-then-self-eq0-clause-free c =
    let p = c.self.inside in
    let some = ap (λ (s : Slots). length s.free) c.self.view_is in
    ap (λ (s : Slots). s.free) (sym c.self.view_is)
    ∙ free-fresh p.next p.first_given p.given_count p.fresh c.if-self-eq0.true
    (fresh-left p.next p.first_given p.given_count p.fresh c.self.invariant.2
    c.if-self-eq0.true (omega (arith, some, c.requires)))

pub get-self-inside-requires : goal.get-self-inside-requires
get-self-inside-requires c =
    let p = c.self.inside in
    let below = first-below p.next p.first_given p.given_count (length p.next)
    (omega (arith, c.if-self-eq0.false)) c.self.invariant.1 in
    below

pub invariant_of-self-2 : goal.invariant_of-self-2
invariant_of-self-2 c =
    let p = c.self.inside in
    let some : 0 < p.given_count = omega (arith, c.if-self-eq0.false) in
    let below = first-below p.next p.first_given p.given_count
    (length p.next) some c.self.invariant.1 in
    let after = c.get-self-inside.ensures.slot in (
      c.self.invariant.0,
      rw (sym after) at
          (rest-below p.next p.first_given p.given_count
          (length p.next) some c.self.invariant.1),
      c.self.invariant.2,
      c.self.invariant.3,
      c.get-self-inside.ensures.fits,
    )

pub returns-clause-free : goal.returns-clause-free
returns-clause-free c =
    let p = c.self.inside in
    let some : 0 < p.given_count = omega (arith, c.if-self-eq0.false) in
    let below = first-below p.next p.first_given p.given_count
    (length p.next) some c.self.invariant.1 in
    let after = c.get-self-inside.ensures.slot in
    ap (λ (s : Slots). s.free) (sym c.self.view_is)
    ∙ free-given p.next p.first_given p.given_count p.fresh some
    ∙ ap (λ k. p.first_given ∷ free_slots p.next k (p.given_count - 1) p.fresh) (sym after)
