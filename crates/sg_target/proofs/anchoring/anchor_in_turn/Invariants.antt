use Rattle.std.proofs.Common.{◌≡◌, ◌≤◌, ◌+◌, ◌*◌, ◌^◌, ◌++◌, take, List}
use Rattle.sg_store.specs.Disk.{anchored}
use Rattle.sg_store.specs.Meter.{Meter}
use Rattle.sg_target.specs.Charge.{IsCounted, cost_bounds}
use Rattle.sg_target.specs.Anchoring.{disk_changed_in_turn}
use Rattle.sg_target.specs.Ranges.{Range, ranges_in_turn}
use Rattle.sg_target.proofs.anchoring.anchor_in_turn.Given as goal

-- the extents so far are anchored
abbrev pub invariant-loop-extent : goal.invariant-loop-extent
invariant-loop-extent g l =
    let before = g.S.Store.disk l.fn.store in
    let meter = g.S.Store.meter l.fn.store in
    let now = g.S.Store.meter l.store in
    let done = take l.extent-index l.extents in
    record {
      disk : g.S.Store.disk l.store ≡ disk_changed_in_turn anchored before done;
      counted : (first : Meter) (over : List Range)
          → IsCounted (cost_bounds g.S.Store.price g.S.Store.least) before.pool
          over first meter
          → IsCounted (cost_bounds g.S.Store.price g.S.Store.least) before.pool
          (over ++ ranges_in_turn anchored before.contents done) first now;
      visits : now.counts.visits ≤ meter.counts.visits + l.extent-index * 2 ^ 41;
      probes : now.counts.probes ≤ meter.counts.probes + 64 * l.extent-index;
      links : now.counts.links ≤ meter.counts.links + 4294967295 * l.extent-index;
    }
