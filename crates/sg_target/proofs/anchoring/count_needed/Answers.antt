use Rattle.std.proofs.Common.{◌≡◌, take, get_or, ap, ◌∙◌, arith}
use Rattle.std.proofs.lemmas.List.{take_more}
use Rattle.sg_target.specs.Charge.{cost_bounds}
use Rattle.sg_store.specs.Disk.{Disk, need}
use Rattle.sg_target.specs.declared.joining.AddressRange.{AddressRange}
use Rattle.sg_target.proofs.ChargingLemmas.{counted-next}
use Rattle.sg_target.proofs.JoiningLemmas.{cost-last}
use Rattle.sg_target.proofs.AddressRangeLemmas.{within-at}
use Rattle.sg_target.proofs.anchoring.count_needed.Goals as goal

pub need-needed-requires-clause-range : goal.need-needed-requires-clause-range
need-needed-requires-clause-range g c =
    let none : AddressRange = record { lba = 0; count = 0 } in
    let same = ap (λ (d : Disk). d.capacity) c.loop-range.invariant.disk in
    omega (
      arith,
      same,
      within-at _ c.args.ranges.now c.loop-range.range-index none c.loop-range-test.true
          c.requires.fits,
    )

pub overflow_add-needed : goal.overflow_add-needed
overflow_add-needed g c =
    let none : AddressRange = record { lba = 0; count = 0 } in
    let next = get_or c.args.ranges.now c.loop-range.range-index none in
    let within = within-at _ c.args.ranges.now c.loop-range.range-index none c.loop-range-test.true
    c.requires.fits in
    let now = g.S.Store.disk c.loop-range.store in
    let few = c.remapping_takes_what_is_needed.ensures.at_most now.contents next.lba next.count in
    omega (
      arith,
      within,
      few,
      c.requires.size.capacity,
      c.requires.at_most,
      c.need-needed.ensures.value,
      c.loop-range.invariant.small,
      c.loop-range-test.true,
    )

pub loop-range-preserved : goal.loop-range-preserved
loop-range-preserved g c =
    let inv = c.loop-range.invariant in
    let ranges = c.args.ranges.now in
    let i = c.loop-range.range-index in
    let here = c.loop-range-test.true in
    let e = c.need-needed.ensures in
    let none : AddressRange = record { lba = 0; count = 0 } in
    let next = get_or ranges i none in
    let disk = g.S.Store.disk c.args.store.now in
    let now = g.S.Store.disk c.loop-range.store in
    let within = within-at _ ranges i none here c.requires.fits in
    let few = c.remapping_takes_what_is_needed.ensures.at_most now.contents next.lba next.count in
    let price = g.met.S.Store.price_within now.contents next.lba next.count in
    let value : c.need-needed.result ≡ need disk.contents next.lba next.count =
    e.value ∙ ap (λ (d : Disk). need d.contents next.lba next.count) inv.disk in
    record {
      disk = e.disk ∙ inv.disk;
      needed = rw (take_more ranges i none here) (omega (
        arith,
        inv.needed,
        value,
        cost-last (need disk.contents) (take i ranges) next,
      ));
      counted = counted-next
          (cost_bounds g.S.Store.price g.S.Store.least) disk now
          ranges i none here _ _ _ inv.disk inv.counted e.costs.cost e.costs.price e.costs.least;
      visits = omega (
        arith,
        inv.visits,
        e.costs.cost.visits,
        e.costs.price,
        price,
        within,
        c.requires.size.capacity,
      );
      small = omega (arith, inv.small, e.value, few, within, c.requires.size.capacity);
    }
