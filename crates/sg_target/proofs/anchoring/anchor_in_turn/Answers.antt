use Rattle.std.proofs.Common.{◌≡◌, ◌+◌, [], ◌∷◌, ◌++◌, take, drop, get_or, ap, sym, ◌∙◌, arith, subst}
use Rattle.std.proofs.lemmas.List.{take_more, take_all, take-append-drop}
use Rattle.std.specs.FinMap as map
use Rattle.sg_target.specs.Charge.{IsCounted, cost_bounds}
use Rattle.sg_target.specs.ProvisioningCommands.{changed_in_turn}
use Rattle.sg_target.specs.Ranges.{ranges_in_turn}
use Rattle.sg_store.specs.Disk.{Contents, Disk, anchored}
use Rattle.sg_wire.specs.declared.extent.Extent.{Extent}
use Rattle.sg_target.proofs.ChargingLemmas.{disk-next, turn-next}
use Rattle.sg_target.proofs.ExtentLemmas.{on_disk-at}
use Rattle.sg_target.proofs.InTurnLemmas.{changed-append}
use Rattle.sg_target.proofs.NeedLemmas.{room-first}
use Rattle.sg_target.proofs.anchoring.anchor_in_turn.Goals as goal

pub anchor_with_room-requires-clause-range : goal.anchor_with_room-requires-clause-range
anchor_with_room-requires-clause-range g c =
    let none : Extent = record { lba = 0; count = 0 } in
    let same = ap (λ (d : Disk). d.capacity) c.loop-extent.invariant.disk in
    omega (
      arith,
      same,
      on_disk-at _ c.args.extents.now c.loop-extent.extent-index none c.loop-extent-test.true
          c.requires.on_disk,
    )

pub anchor_with_room-requires-clause-room : goal.anchor_with_room-requires-clause-room
anchor_with_room-requires-clause-room g c =
    let none : Extent = record { lba = 0; count = 0 } in
    let extents = c.args.extents.now in
    let i = c.loop-extent.extent-index in
    let here = c.loop-extent-test.true in
    let before = g.S.Store.disk c.args.store.now in
    let next = get_or extents i none in
    let left = ap (λ (d : Disk). d.contents) c.loop-extent.invariant.disk in
    let pool = ap (λ (d : Disk). d.pool) c.loop-extent.invariant.disk in
    let more : anchored (changed_in_turn anchored before.contents (take i extents)) next.lba next.count
    ≡ changed_in_turn anchored before.contents (take (i + 1) extents) =
    sym (changed-append anchored before.contents (take i extents) (next ∷ []))
    ∙ ap (changed_in_turn anchored before.contents) (sym (take_more extents i none here)) in
    let law = c.remapping_takes_what_is_needed.ensures in
    let first = room-first law before.contents (take (i + 1) extents) (drop (i + 1) extents) in
    let all = ap (λ xs. map.len (changed_in_turn anchored before.contents xs))
    (take-append-drop (i + 1) extents) in
    let size = ap map.len (ap (λ (m : Contents). anchored m next.lba next.count) left ∙ more) in
    omega (arith, first, all, size, pool, c.requires.room)

pub loop-extent-preserved : goal.loop-extent-preserved
loop-extent-preserved g c =
    let inv = c.loop-extent.invariant in
    let extents = c.args.extents.now in
    let i = c.loop-extent.extent-index in
    let here = c.loop-extent-test.true in
    let e = c.anchor_with_room.ensures in
    let none : Extent = record { lba = 0; count = 0 } in
    let next = get_or extents i none in
    let before = g.S.Store.disk c.args.store.now in
    let now = g.S.Store.disk c.loop-extent.store in
    let on_disk = on_disk-at _ extents i none here c.requires.on_disk in
    let price = g.met.S.Store.price_within now.contents next.lba next.count in
    let pool = ap (λ (d : Disk). d.pool) inv.disk in
    record {
      disk = disk-next anchored extents i none here before now inv.disk _ e.disk;
      counted = λ first over h. turn-next anchored extents i none here before now inv.disk
          (cost_bounds g.S.Store.price g.S.Store.least) over first _ _
          (inv.counted first over h) e.costs.cost e.costs.price e.costs.least;
      visits = omega (
        arith,
        inv.visits,
        e.costs.cost.visits,
        e.costs.price,
        price,
        on_disk,
        c.requires.size.capacity,
      );
      probes = omega (arith, inv.probes, e.costs.cost.probes);
      links = omega (arith, inv.links, e.costs.cost.links, pool, c.requires.size.pool);
    }

pub returns-clause-counted : goal.returns-clause-counted
returns-clause-counted g c =
    let extents = c.args.extents.now in
    let i = c.loop-extent.extent-index in
    let all = take_all i extents (omega (arith, c.loop-extent-test.false)) in
    let before = g.S.Store.disk c.args.store.now in
    λ first over h.
    subst (λ xs. IsCounted (cost_bounds g.S.Store.price g.S.Store.least)
    before.pool (over ++ ranges_in_turn anchored before.contents xs) first
    (g.S.Store.meter c.loop-extent.store)) all (c.loop-extent.invariant.counted first over h)
