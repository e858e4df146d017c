use Rattle.std.proofs.Common.{◌≡◌, ℕ, List, ◌+◌, ◌-◌, ◌≤◌, length, sym, ap, ◌∙◌, arith, subst}
use Rattle.sg_pool.specs.Chains.{chain, slot_after, AreBelow}
use Rattle.sg_pool.proofs.LinkLemmas.{slot_after-none, slot_after-add}
use Rattle.sg_pool.proofs.LinkLemmas.{below-from}
use Rattle.sg_pool.specs.declared.jumps.Jumps.{Jumps}
use Rattle.sg_pool.specs.declared.leaps.Leaps.{Leaps}
use Rattle.sg_pool.proofs.WayLemmas.{IsOnWay, IsSame, way-start, way-step, way-end}
use Rattle.sg_pool.proofs.leaps.walk.Goals as goal

same-tags : (jumps jumps' : Jumps) (tags tags' : Leaps) → jumps' ≡ jumps → tags' ≡ tags
    → IsSame jumps.count.items jumps.target.items tags.count.items tags.reach.items jumps'.count.items
    jumps'.target.items tags'.count.items tags'.reach.items
same-tags jumps jumps' tags tags' js ts = record {
  jumps = sym (ap (λ (j : Jumps). j.count.items) js);
  targets = sym (ap (λ (j : Jumps). j.target.items) js);
  counts = sym (ap (λ (l : Leaps). l.count.items) ts);
  reaches = sym (ap (λ (l : Leaps). l.reach.items) ts);
}

pub loop-left-init : goal.loop-left-init
loop-left-init c =
    let none : c.args.count - c.args.count ≡ 0 = omega arith in
    record {
      jumps = c.requires.jumps;
      left = omega arith;
      slot = sym (ap (slot_after c.args.next.now c.args.first) none
          ∙ slot_after-none c.args.next.now c.args.first);
      steps = omega arith;
      leaps = c.requires.leaps;
      way = way-start c.args.next.now c.args.jumps.now.count.items c.args.jumps.now.target.items
          c.args.leaps.now.count.items c.args.leaps.now.reach.items c.args.first c.args.count;
    }

-- the links that are left are a part of the chain
rest-below : (next : List ℕ) (first slot count left : ℕ) → left ≤ count
    → slot ≡ slot_after next first (count - left) → AreBelow (length next) (chain next first count)
    → AreBelow (length next) (chain next slot left)
rest-below next first slot count left le at all =
    let rest : count - (count - left) ≡ left = omega (arith, le) in
    let below = below-from (length next) next first (count - left) count (omega arith) all in
    subst (λ (s : ℕ). AreBelow (length next) (chain next s left)) (sym at)
    (subst (λ (n : ℕ). AreBelow (length next) (chain next (slot_after next first (count - left)) n))
    rest below)

pub stride-taken-requires-clause-below : goal.stride-taken-requires-clause-below
stride-taken-requires-clause-below c =
    let inv = c.loop-left.invariant in
    rest-below c.args.next.now c.args.first c.loop-left.slot c.args.count c.loop-left.left inv.left
    inv.slot c.requires.below

pub loop-left-preserved : goal.loop-left-preserved
loop-left-preserved c =
    let inv = c.loop-left.invariant in
    let next = c.args.next.now in
    let left = c.loop-left.left in
    let passed = c.stride-taken.result.passed in
    let count = c.args.count in
    let e : count - left + passed ≡ count - (left - passed) =
    omega (arith, inv.left, c.stride-taken.ensures.passed) in
    record {
      jumps = c.stride-taken.ensures.jumps;
      left = omega (arith, inv.left);
      slot = c.stride-taken.ensures.slot ∙ ap (λ s. slot_after next s passed) inv.slot
          ∙ sym (slot_after-add next c.args.first (count - left) passed)
          ∙ ap (slot_after next c.args.first) e;
      steps = omega (arith, inv.steps, c.stride-taken.ensures.passed, c.stride-taken.ensures.steps);
      leaps = c.stride-taken.ensures.leaps;
      way = λ ahead leaps enough.
          let jumps = c.loop-left.jumps in
          let tags = c.loop-left.leaps in
          let jumps' = c.stride-taken.new.jumps in
          let tags' = c.stride-taken.new.leaps in
          let e = c.stride-taken.ensures in
          subst (λ (s : ℕ). IsOnWay next jumps'.count.items jumps'.target.items tags'.count.items
          tags'.reach.items s (left - passed) (c.loop-left.steps + c.stride-taken.result.steps)
          (length ahead)) (sym e.slot)
          (way-step next jumps.owner.items jumps.count.items jumps.target.items tags.owner.items
          tags.count.items tags.landing.items tags.reach.items jumps'.count.items jumps'.target.items
          tags'.count.items tags'.reach.items c.loop-left.slot left c.loop-left.steps (length ahead) passed
          c.stride-taken.result.steps inv.jumps inv.leaps (omega (arith, c.loop-left-test.true))
          e.passed.1 e.steps
          (λ some far le. let t = e.leap some far le in (
            t.0,
            t.1,
            same-tags jumps jumps' tags tags'
                t.2 t.3,
          ))
          (λ low none some le. let t = e.jump low none some le in (
            t.0,
            t.1,
            same-tags jumps jumps' tags
                tags' t.2 t.3,
          ))
          (inv.way ahead leaps enough));
    }

pub follow_links-requires : goal.follow_links-requires
follow_links-requires c =
    let inv = c.loop-left.invariant in
    rest-below c.args.next.now c.args.first c.loop-left.slot c.args.count c.loop-left.left inv.left
    inv.slot c.requires.below

pub returns-clause-slot : goal.returns-clause-slot
returns-clause-slot c =
    let inv = c.loop-left.invariant in
    let next = c.args.next.now in
    let left = c.loop-left.left in
    let count = c.args.count in
    let all : count - left + left ≡ count = omega (arith, inv.left) in
    c.follow_links.ensures ∙ ap (λ s. slot_after next s left) inv.slot
    ∙ sym (slot_after-add next c.args.first (count - left) left)
    ∙ ap (slot_after next c.args.first) all

pub returns-clause-few : goal.returns-clause-few
returns-clause-few c = λ ahead leaps enough.
    way-end c.args.next.now c.loop-left.jumps.count.items c.loop-left.jumps.target.items
    c.loop-left.leaps.count.items c.loop-left.leaps.reach.items c.loop-left.slot c.loop-left.left
    c.loop-left.steps (length ahead) (omega (arith, c.loop-left-test.false))
    (c.loop-left.invariant.way ahead leaps enough)
