use Rattle.std.proofs.Common.{[], get_or, ap, arith, length-take}
use Rattle.sg_wire.specs.declared.extent.Extent.{Extent}
use Rattle.sg_store.specs.Disk.{Disk, unmapped}
use Rattle.sg_target.specs.Charge.{cost_bounds}
use Rattle.sg_target.proofs.ExtentLemmas.{on_disk-at}
use Rattle.sg_target.proofs.ChargingLemmas.{disk-next, turn-next}
use Rattle.sg_target.proofs.UnmapLemmas.{has_headroom}
use Rattle.sg_target.proofs.provisioning.unmap_in_turn.Goals as goal

pub unmap-requires-clause-range : goal.unmap-requires-clause-range
unmap-requires-clause-range g c =
    let same = ap (λ (d : Disk). d.capacity) c.loop-extent.invariant.disk in
    let first : Extent = record { lba = 0; count = 0 } in
    let here = on_disk-at _ c.args.extents.now c.loop-extent.extent-index first
    c.loop-extent-test.true c.requires.on_disk in
    omega (arith, same, here, c.from.ensures)

pub unmap-requires-clause-headroom : goal.unmap-requires-clause-headroom
unmap-requires-clause-headroom g c =
    has_headroom _ _ c.loop-extent.extent-index _ _ _ _ c.requires.size.pool (omega arith)
    (omega (arith, length-take c.loop-extent.extent-index c.args.extents.now))
    c.loop-extent.invariant.few c.loop-extent.invariant.counted

pub loop-extent-preserved : goal.loop-extent-preserved
loop-extent-preserved g c =
    let inv = c.loop-extent.invariant in
    let extents = c.args.extents.now in
    let i = c.loop-extent.extent-index in
    let here = c.loop-extent-test.true in
    let e = c.unmap.ensures in
    let price = rw c.from.ensures at e.costs.price in
    let first : Extent = record { lba = 0; count = 0 } in
    let on_disk = on_disk-at _ extents i first here c.requires.on_disk in
    let within = g.met.S.Store.price_within (g.S.Store.disk c.loop-extent.store).contents
    (get_or extents i first).lba (get_or extents i first).count in
    record {
      disk = disk-next unmapped extents i first here _ _ inv.disk _
          (rw c.from.ensures at e.disk);
      counted = turn-next unmapped extents i first here _ _ inv.disk
          (cost_bounds g.S.Store.price g.S.Store.least) [] _ _ _
          inv.counted e.costs.cost price (rw c.from.ensures at e.costs.least);
      few = omega (arith, e.costs.cost.visits, price, within, on_disk);
    }
