use Rattle.std.proofs.Common.{List, ℕ, length, ap, ◌∙◌, sym, arith}
use Rattle.sg_pool.specs.Chains.{slot_after}
use Rattle.sg_pool.proofs.LinkLemmas.{slot-low, slot_after-none}
use Rattle.sg_pool.proofs.links.Links.follow.Goals as goal

pub returns-then-count-eq0-clause-slot : goal.returns-then-count-eq0-clause-slot
returns-then-count-eq0-clause-slot c =
    sym (ap (slot_after c.args.self.now c.args.first) c.if-count-eq0.true
    ∙ slot_after-none c.args.self.now c.args.first)

pub overflow_cast-first : goal.overflow_cast-first
overflow_cast-first c =
    let next = c.args.self.now in
    record {
      fits = omega (
        arith,
        slot-low (length next) next c.args.first c.args.count (omega (arith, c.if-count-eq0.false))
            c.requires,
        ap (λ (xs : List ℕ). length xs) c.self.view_is,
        c.self.invariant.0,
      );
    }
