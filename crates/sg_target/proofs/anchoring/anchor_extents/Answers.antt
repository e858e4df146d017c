use Rattle.std.proofs.lemmas.Bool.{false≢true}
use Rattle.std.proofs.Common.{arith, map, refl, sym, subst, List, ◌≤◌}
use Rattle.sg_store.specs.declared.store.TheConstants.{MAX_CAPACITY}
use Rattle.sg_target.specs.Charge.{IsWithinPrice, cost_bounds, least_over}
use Rattle.sg_target.specs.Ranges.{Range}
use Rattle.sg_target.specs.Joining.{range_of}
use Rattle.sg_target.proofs.ChargingLemmas.{counted-charged, all-charged, all-least, with-room, without-room}
use Rattle.sg_target.proofs.NeedLemmas.{ranges-within, used-after, within-weaker}
use Rattle.sg_target.proofs.anchoring.anchor_extents.Goals as goal

pub joined-ranges-requires-clause-fits : goal.joined-ranges-requires-clause-fits
joined-ranges-requires-clause-fits g c =
    within-weaker _ MAX_CAPACITY (map range_of c.args.extents.now) c.requires.size.1.capacity
    (ranges-within _ c.args.extents.now c.requires.on_disk)

pub count_needed-needed-requires-clause-fits : goal.count_needed-needed-requires-clause-fits
count_needed-needed-requires-clause-fits g c =
    rw c.as_slice.ensures.value
    (c.joined-ranges.ensures.within (g.S.Store.disk c.args.store.now).capacity
    (ranges-within _ c.args.extents.now c.requires.on_disk))

pub returns-then-needed-from-clause-space : goal.returns-then-needed-from-clause-space
returns-then-needed-from-clause-space g c =
    let left = c.count_needed-needed.ensures.disk in
    let law = c.remapping_takes_what_is_needed.ensures in
    let after = used-after law _ c.args.extents.now c.joined-ranges.result.items
    c.joined-ranges.ensures _ _
    (rw left at c.used.ensures.value)
    (rw c.as_slice.ensures.value at c.count_needed-needed.ensures.value) in
    let within = rw left at c.used.ensures.within in (
      λ _. omega (arith, after, within, c.requires.size.0, c.from.ensures, c.if-needed-from.true),
      λ _. cc,
    )

pub returns-then-needed-from-clause-costs : goal.returns-then-needed-from-clause-costs
returns-then-needed-from-clause-costs g c =
    let disk = g.S.Store.disk c.args.store.now in
    let bounds = cost_bounds g.S.Store.price g.S.Store.least in
    let before = g.S.Store.meter c.args.store.now in
    let after = g.S.Store.meter c.count_needed-needed.new.store in
    let full = (returns-then-needed-from-clause-space g c).0 refl in
    record {
      charge = subst (λ (over : List Range). IsWithinPrice bounds disk.pool over before after)
          (sym (without-room disk c.args.extents.now full))
          (counted-charged bounds disk.pool
          disk.contents c.args.extents.now c.joined-ranges.result.items c.joined-ranges.ensures
          (g.met.S.Store.price_joined disk.contents) _ _
          (rw c.as_slice.ensures.value at
          c.count_needed-needed.ensures.counted));
      least = tt;
    }

pub anchor_in_turn-requires-clause-room : goal.anchor_in_turn-requires-clause-room
anchor_in_turn-requires-clause-room g c =
    let left = c.count_needed-needed.ensures.disk in
    let law = c.remapping_takes_what_is_needed.ensures in
    let after = used-after law _ c.args.extents.now c.joined-ranges.result.items
    c.joined-ranges.ensures _ _
    (rw left at c.used.ensures.value)
    (rw c.as_slice.ensures.value at c.count_needed-needed.ensures.value) in
    let within = rw left at c.used.ensures.within in
    rw left (omega (arith, after, within, c.requires.size.0, c.from.ensures, c.if-needed-from.false))

pub returns-clause-space : goal.returns-clause-space
returns-clause-space g c =
    let left = c.count_needed-needed.ensures.disk in
    let law = c.remapping_takes_what_is_needed.ensures in
    let after = used-after law _ c.args.extents.now c.joined-ranges.result.items
    c.joined-ranges.ensures _ _
    (rw left at c.used.ensures.value)
    (rw c.as_slice.ensures.value at c.count_needed-needed.ensures.value) in
    let within = rw left at c.used.ensures.within in (
      λ wrong. cc,
      λ more. absurd (omega (
        arith,
        after,
        within,
        more,
        c.requires.size.0,
        c.from.ensures,
        c.if-needed-from.false,
      )),
    )

pub returns-clause-costs : goal.returns-clause-costs
returns-clause-costs g c =
    let disk = g.S.Store.disk c.args.store.now in
    let left = c.count_needed-needed.ensures.disk in
    let counted = rw c.as_slice.ensures.value at c.count_needed-needed.ensures.counted in
    let all = (rw left at c.anchor_in_turn.ensures.counted) _ _ counted in
    let bounds = cost_bounds g.S.Store.price g.S.Store.least in
    let before = g.S.Store.meter c.args.store.now in
    let now = g.S.Store.meter c.anchor_in_turn.new.store in
    let all_gone_over = sym (with-room disk c.args.extents.now
    (λ more. false≢true ((returns-clause-space g c).1 more))) in
    record {
      charge = subst (λ (over : List Range). IsWithinPrice bounds disk.pool over before now)
          all_gone_over
          (all-charged bounds disk.pool
          disk.contents c.args.extents.now c.joined-ranges.result.items c.joined-ranges.ensures
          (g.met.S.Store.price_joined disk.contents) _ _ all);
      least = subst (λ (over : List Range). least_over bounds.least over ≤ now.counts.visits)
          all_gone_over
          (all-least bounds disk.pool
          disk.contents c.args.extents.now c.joined-ranges.result.items c.joined-ranges.ensures
          (g.met.S.Store.price_joined disk.contents) _ _ all);
    }
