use Rattle.std.proofs.Common.{◌≡◌, ◌≤◌, ◌+◌, ◌*◌, ◌++◌, List}
use Rattle.std.specs.List.{flat_map, range_with_len}
use Rattle.sg_store.specs.Disk.{disk_replaced}
use Rattle.sg_store.specs.Meter.{Meter}
use Rattle.sg_target.specs.BlockCommands.{ored_block}
use Rattle.sg_target.specs.Charge.{IsCounted, cost_bounds}
use Rattle.sg_target.specs.Ranges.{Range, block_ranges}
use Rattle.sg_target.proofs.or_write.or_in_turn.Given as goal

-- the bits of the blocks so far are set
abbrev pub invariant-loop-i : goal.invariant-loop-i
invariant-loop-i g l =
    let before = g.S.Store.disk l.fn.store in
    let meter = g.S.Store.meter l.fn.store in
    let now = g.S.Store.meter l.store in
    record {
      disk : g.S.Store.disk l.store
          ≡ disk_replaced before l.blocks.extent.lba l.i (ored_block before.contents l.blocks);
      counted : (first : Meter) (over : List Range)
          → IsCounted (cost_bounds g.S.Store.price g.S.Store.least) before.pool
          over first meter
          → IsCounted (cost_bounds g.S.Store.price g.S.Store.least) before.pool
          (over ++ flat_map (block_ranges before.contents l.blocks) (range_with_len 0 l.i)) first now;
      visits : now.counts.visits ≤ meter.counts.visits + l.i * 6;
      probes : now.counts.probes ≤ meter.counts.probes + l.i * 128;
      links : now.counts.links ≤ meter.counts.links + l.i * (2 * 4294967295);
    }
