use Rattle.std.proofs.Common.{◌≡◌, ℕ, ◌<◌, length, get_or, sym, ap, ◌∙◌, arith, inl, inr, subst}
use Rattle.std.proofs.Common.{get_or-set_same, set}
use Rattle.std.proofs.lemmas.Bool.{cases_lt}
use Rattle.sg_pool.specs.Chains.{slot_after}
use Rattle.sg_pool.specs.Jumps.{AreJumpsOver}
use Rattle.sg_pool.proofs.LinkLemmas.{slot_after-none, slot_after-more}
use Rattle.sg_pool.proofs.LinkLemmas.{slot-below}
use Rattle.sg_pool.proofs.JumpLemmas.{derived-owned, derived-laid, owned-kept, no-jump}
use Rattle.sg_pool.proofs.LeapLemmas.{leaps-laid}
use Rattle.sg_pool.proofs.jumps.lay.Goals as goal

pub loop-i-init : goal.loop-i-init
loop-i-init c = record {
  derived = c.requires.jumps;
  laid = omega arith;
  limit = omega arith;
  slot = sym (slot_after-none c.args.next.now c.args.first);
  free = λ some. absurd (omega arith);
  mine = λ j h. absurd (omega arith);
}

pub bounds-owner-slot : goal.bounds-owner-slot
bounds-owner-slot c =
    let inv = c.loop-i.invariant in
    let low = slot-below (length c.args.next.now) c.args.next.now c.args.first c.loop-i.laid c.args.limit
    (omega (arith, inv.laid)) c.requires.below in
    omega (arith, inv.slot, low, inv.derived.owners)

pub bounds-jump-owner : goal.bounds-jump-owner
bounds-jump-owner c =
    let inv = c.loop-i.invariant in
    let low = slot-below (length c.args.next.now) c.args.next.now c.args.first c.loop-i.laid c.args.limit
    (omega (arith, inv.laid)) c.requires.below in
    omega (
      arith,
      inv.slot,
      low,
      inv.derived.jumps,
      inv.derived.within c.loop-i.slot (omega (arith, inv.slot, low)),
    )

pub bounds-owner-slot-in-loop-i : goal.bounds-owner-slot-in-loop-i
bounds-owner-slot-in-loop-i c =
    let inv = c.loop-i.invariant in
    let low = slot-below (length c.args.next.now) c.args.next.now c.args.first c.loop-i.laid c.args.limit
    (omega (arith, inv.laid)) c.requires.below in
    omega (arith, inv.slot, low, inv.derived.owners)

pub bounds-next-slot : goal.bounds-next-slot
bounds-next-slot c =
    let inv = c.loop-i.invariant in
    let low = slot-below (length c.args.next.now) c.args.next.now c.args.first c.loop-i.laid c.args.limit
    (omega (arith, inv.laid)) c.requires.below in
    omega (arith, inv.slot, low)

pub loop-i-preserved : goal.loop-i-preserved
loop-i-preserved c =
    let inv = c.loop-i.invariant in
    let next = c.args.next.now in
    let first = c.args.first in
    let owner = c.loop-i.owner in
    let slot = c.loop-i.slot in
    let low = slot-below (length next) next first c.loop-i.laid c.args.limit
    (omega (arith, inv.laid)) c.requires.below in
    let here : slot < length owner = omega (arith, inv.slot, low, inv.derived.owners) in
    record {
      derived = derived-owned next owner c.args.jump.now c.args.target.now slot first
          inv.derived c.if-jump-owner-ne0.false c.requires.first;
      laid = omega (arith, inv.laid);
      limit = omega (arith, inv.laid);
      slot = ap (λ s. get_or next s 0) inv.slot ∙ sym (slot_after-more next first c.loop-i.laid);
      free = λ some. elim (cases_lt 0 c.loop-i.laid) [
        | inl more ↦ inv.free more
        | inr none ↦
            let e : c.loop-i.laid ≡ 0 = omega arith in
            let at : slot ≡ first = inv.slot ∙ ap (slot_after next first) e ∙ slot_after-none next first in
            ap (λ x. get_or c.args.jump.now x 0) (sym at)
            ∙ no-jump next owner c.args.jump.now c.args.target.now slot inv.derived c.if-jump-owner-ne0.false
      ];
      mine = λ j h. elim (cases_lt j c.loop-i.laid) [
        | inl lt ↦ owned-kept owner slot first (slot_after next first j) here (inv.mine j lt)
        | inr ge ↦
            let e : j ≡ c.loop-i.laid = omega arith in
            ap (λ k. get_or (set owner slot first) (slot_after next first k) 0) e
            ∙ ap (λ s. get_or (set owner slot first) s 0) (sym inv.slot)
            ∙ get_or-set_same owner slot first 0 here
      ];
    }

pub bounds-jump-first : goal.bounds-jump-first
bounds-jump-first c = omega (arith, c.requires.first, c.loop-i.invariant.derived.jumps)

pub bounds-target-first : goal.bounds-target-first
bounds-target-first c = omega (arith, c.requires.first, c.loop-i.invariant.derived.targets)

pub returns-then-laid-gt0-clause-jumps : goal.returns-then-laid-gt0-clause-jumps
returns-then-laid-gt0-clause-jumps c =
    let inv = c.loop-i.invariant in
    let next = c.args.next.now in
    let first = c.args.first in
    let laid = c.loop-i.laid in
    subst (λ (s : ℕ). AreJumpsOver next c.loop-i.owner (set c.args.jump.now first laid)
    (set c.args.target.now first s)) (sym inv.slot)
    (derived-laid next c.loop-i.owner c.args.jump.now c.args.target.now first laid
    inv.derived c.requires.first (omega (arith, inv.limit, c.requires.limit)) inv.mine)

pub returns-then-laid-gt0-clause-laid : goal.returns-then-laid-gt0-clause-laid
returns-then-laid-gt0-clause-laid c = λ some. get_or-set_same c.args.jump.now c.args.first c.loop-i.laid 0
    (omega (arith, c.requires.first, c.loop-i.invariant.derived.jumps))

pub returns-then-laid-gt0-clause-leaps : goal.returns-then-laid-gt0-clause-leaps
returns-then-laid-gt0-clause-leaps c = λ over leap landing reach d.
    leaps-laid c.args.jump.now c.args.target.now over leap landing reach c.args.first c.loop-i.laid
    c.loop-i.slot d (c.loop-i.invariant.free c.if-laid-gt0.true)
