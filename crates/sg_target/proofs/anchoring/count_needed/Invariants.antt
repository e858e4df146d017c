use Rattle.std.proofs.Common.{◌≡◌, ◌≤◌, ◌*◌, ◌^◌, take}
use Rattle.sg_target.specs.Anchoring.{need_of}
use Rattle.sg_target.specs.Anchoring.{counted_ranges}
use Rattle.sg_target.specs.Charge.{IsCounted, cost_bounds}
use Rattle.sg_target.proofs.anchoring.count_needed.Given as goal

-- the blocks that the ranges so far need
abbrev pub invariant-loop-range : goal.invariant-loop-range
invariant-loop-range g l =
    let before = g.S.Store.disk l.fn.store in
    let done = take l.range-index l.ranges in
    record {
      disk : g.S.Store.disk l.store ≡ before;
      needed : l.needed ≡ need_of before.contents done;
      counted : IsCounted (cost_bounds g.S.Store.price g.S.Store.least) before.pool
          (counted_ranges before.contents done) (g.S.Store.meter l.fn.store)
          (g.S.Store.meter l.store);
      visits : (g.S.Store.meter l.store).counts.visits ≤ l.range-index * 2 ^ 41;
      small : l.needed ≤ l.range-index * 2 ^ 40;
    }
