use Rattle.std.proofs.Common.{◌≡◌, ◌≤◌, ◌*◌, ◌^◌, take}
use Rattle.sg_store.specs.Disk.{unmapped}
use Rattle.sg_target.specs.Charge.{IsCounted, cost_bounds}
use Rattle.sg_target.specs.Anchoring.{disk_changed_in_turn}
use Rattle.sg_target.specs.Ranges.{ranges_in_turn}
use Rattle.sg_target.proofs.provisioning.unmap_in_turn.Given as goal

-- the extents so far, and few enough visits for each
abbrev pub invariant-loop-extent : goal.invariant-loop-extent
invariant-loop-extent g l =
    let before = g.S.Store.disk l.fn.store in
    let done = take l.extent-index l.extents in
    record {
      disk : g.S.Store.disk l.store ≡ disk_changed_in_turn unmapped before done;
      counted : IsCounted (cost_bounds g.S.Store.price g.S.Store.least) before.pool
          (ranges_in_turn unmapped before.contents done)
          (g.S.Store.meter l.fn.store) (g.S.Store.meter l.store);
      few : (g.S.Store.meter l.store).counts.visits ≤ l.extent-index * 2 ^ 41;
    }
