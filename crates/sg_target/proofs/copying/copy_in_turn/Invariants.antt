use Rattle.std.proofs.Common.{◌≡◌, ◌≤◌, ◌+◌, ◌*◌, ◌++◌, List}
use Rattle.std.specs.List.{flat_map, range_with_len}
use Rattle.sg_store.specs.Meter.{Meter}
use Rattle.sg_target.specs.Charge.{IsCounted, cost_bounds}
use Rattle.sg_target.specs.Ranges.{Range, copied_so_far, step_ranges}
use Rattle.sg_target.proofs.copying.copy_in_turn.Given as goal

-- the blocks so far are copied
abbrev pub invariant-loop-done : goal.invariant-loop-done
invariant-loop-done g l =
    let before = g.S.Store.disk l.fn.store in
    let meter = g.S.Store.meter l.fn.store in
    let now = g.S.Store.meter l.store in
    record {
      disk : g.S.Store.disk l.store
          ≡ record before { contents = copied_so_far before.contents l.blocks l.done };
      counted : (first : Meter) (over : List Range)
          → IsCounted (cost_bounds g.S.Store.price g.S.Store.least) before.pool
          over first meter
          → IsCounted (cost_bounds g.S.Store.price g.S.Store.least) before.pool
          (over ++ flat_map (step_ranges before.contents l.blocks) (range_with_len 0 l.done)) first now;
      visits : now.counts.visits ≤ meter.counts.visits + l.done * 6;
      probes : now.counts.probes ≤ meter.counts.probes + l.done * 128;
      links : now.counts.links ≤ meter.counts.links + l.done * (2 * 4294967295);
    }
