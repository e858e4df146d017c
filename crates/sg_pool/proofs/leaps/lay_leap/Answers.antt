use Rattle.std.proofs.Common.{◌≡◌, ◌+◌, ◌<◌, length, get_or, set, sym, ap, ap₂, ◌∙◌, arith, inl, inr}
use Rattle.std.proofs.Common.{get_or-set_same}
use Rattle.std.proofs.lemmas.Bool.{cases_lt}
use Rattle.std.proofs.lemmas.List.{get_or_read_under}
use Rattle.sg_pool.specs.Chains.{slot_after}
use Rattle.sg_pool.proofs.LinkLemmas.{slot_after-none, slot_after-more}
use Rattle.sg_pool.proofs.JumpLemmas.{owned-kept, index-below}
use Rattle.sg_pool.proofs.LeapLemmas.{leaps-cleared, leaps-owned, span-none, span-more}
use Rattle.sg_pool.proofs.leaps.lay_leap.Goals as goal

pub loop-i-init : goal.loop-i-init
loop-i-init c = record {
  leaps = c.requires.leaps;
  laid = omega arith;
  slot = sym (slot_after-none c.args.jumps.now.target.items c.args.first);
  passed = sym (span-none c.args.jumps.now.count.items c.args.jumps.now.target.items c.args.first);
  least = omega arith;
  most = omega arith;
  mine = λ j h. absurd (omega arith);
  live = λ j h. absurd (omega arith);
}

pub loop-i-preserved : goal.loop-i-preserved
loop-i-preserved c =
    let inv = c.loop-i.invariant in
    let jump = c.args.jumps.now.count.items in
    let target = c.args.jumps.now.target.items in
    let first = c.args.first in
    let over = c.loop-i.owner in
    let slot = c.loop-i.slot in
    let laid = c.loop-i.laid in
    let long : c.jump_at-links.result ≡ get_or jump slot 0 = c.jump_at-links.ensures in
    let some : 0 < get_or jump slot 0 = omega (arith, long, c.if-links-eq0.false) in
    let low = index-below jump slot some in
    let here : slot < length over = omega (arith, low, c.requires.jumps, inv.leaps.derived.owners) in
    let at : get_or jump (slot_after target first laid) 0 ≡ get_or jump slot 0 =
    ap (λ s. get_or jump s 0) (sym inv.slot) in
    let short = c.requires.short slot in
    let low' : slot < c.args.jumps.now.target.len =
    omega (arith, low, c.requires.jumps, c.args.jumps.now.target.ok.0) in
    let to = get_or_read_under target slot c.args.jumps.now.target.len c.index-slot.result.now 0
    c.index-slot.ensures low' (omega (arith, c.args.jumps.now.target.ok.0)) in
    record {
      leaps = leaps-owned jump target over (set c.loop-i.count (get_or over slot 0) 0)
          c.args.landing.now c.args.reach.now slot first
          (leaps-cleared jump target over c.loop-i.count c.args.landing.now c.args.reach.now slot inv.leaps)
          (get_or-set_same c.loop-i.count (get_or over slot 0) 0 0 (omega (
            arith,
            inv.leaps.derived.within slot (omega (arith, here, inv.leaps.derived.owners)),
            inv.leaps.derived.jumps,
          ))) c.requires.first;
      laid = omega (arith, inv.laid);
      slot = to ∙ ap (λ s. get_or target s 0) inv.slot ∙ sym (slot_after-more target first laid);
      passed = ap₂ (λ a b. a + b) inv.passed (c.from-passed.ensures ∙ long ∙ sym at)
          ∙ sym (span-more jump target first laid);
      least = omega (arith, inv.least, long, some);
      most = omega (arith, inv.most, long, short);
      mine = λ j h. elim (cases_lt j laid) [
        | inl lt ↦ owned-kept over slot first (slot_after target first j) here (inv.mine j lt)
        | inr ge ↦
            let e : j ≡ laid = omega arith in
            ap (λ k. get_or (set over slot first) (slot_after target first k) 0) e
            ∙ ap (λ s. get_or (set over slot first) s 0) (sym inv.slot)
            ∙ get_or-set_same over slot first 0 here
      ];
      live = λ j h. elim (cases_lt j laid) [
        | inl lt ↦ inv.live j lt
        | inr ge ↦
            let e : j ≡ laid = omega arith in
            let there = ap (λ k. get_or jump (slot_after target first k) 0) e in
            omega (arith, there, at, some)
      ];
    }

pub bounds-owner-slot : goal.bounds-owner-slot
bounds-owner-slot c =
    let inv = c.loop-i.invariant in
    let low = index-below c.args.jumps.now.count.items c.loop-i.slot
    (omega (arith, c.jump_at-links.ensures, c.if-links-eq0.false)) in
    omega (arith, low, c.requires.jumps, inv.leaps.derived.owners)
