use Rattle.std.proofs.Common.{◌≡◌, ◌<◌, ◌+◌, ◌++◌, ℕ, List, ap, ap₂, subst, sym, arith}
use Rattle.std.proofs.lemmas.List.{append-nil}
use Rattle.std.specs.FinMap.{len}
use Rattle.std.specs.List.{flat_map, range_with_len}
use Rattle.sg_store.specs.Disk.{Contents, Disk, need}
use Rattle.sg_target.specs.BlockCommands.{BlocksOutFields, ored_block}
use Rattle.sg_target.specs.Charge.{IsCounted, cost_bounds}
use Rattle.sg_target.specs.Ranges.{Range, block_ranges}
use Rattle.sg_target.proofs.OrWriteLemmas.{block-next, none-replaced, ranges-next, room-next}
use Rattle.sg_target.proofs.or_write.or_in_turn.Goals as goal

pub loop-i-init : goal.loop-i-init
loop-i-init g c = record {
  disk = none-replaced _ _ _;
  counted = λ first over h. subst (λ (xs : List Range). IsCounted
      (cost_bounds g.S.Store.price g.S.Store.least) (g.S.Store.disk c.args.store.now).pool xs first
      (g.S.Store.meter c.args.store.now)) (sym (append-nil over)) h;
  visits = omega arith;
  probes = omega arith;
  links = omega arith;
}

pub or_block-requires-clause-room : goal.or_block-requires-clause-room
or_block-requires-clause-room g c =
    let before = g.S.Store.disk c.args.store.now in
    let out = c.args.blocks.now in
    let i = c.loop-i.i in
    let first = ap (λ (b : BlocksOutFields). b.extent.lba) c.blocks-2.view_is in
    let count = ap (λ (b : BlocksOutFields). b.extent.count) c.blocks-2.view_is in
    let below : i < out.extent.count = omega (arith, c.loop-i-test.true, count) in
    let left = ap (λ (d : Disk). d.contents) c.loop-i.invariant.disk in
    let pool = ap (λ (d : Disk). d.pool) c.loop-i.invariant.disk in
    let at : c.blocks-2.inside.extent.lba + c.from.result ≡ out.extent.lba + i =
    omega (arith, first, c.from.ensures) in
    let next = room-next c.remapping_takes_what_is_needed.ensures before.contents out.extent.lba i
    out.extent.count (ored_block before.contents out) below in
    omega (
      arith,
      next,
      ap len left,
      ap₂ (λ (m : Contents) (a : ℕ). need m a 1) left at,
      pool,
      c.requires.room,
    )

pub loop-i-preserved : goal.loop-i-preserved
loop-i-preserved g c =
    let inv = c.loop-i.invariant in
    let before = g.S.Store.disk c.args.store.now in
    let out = c.args.blocks.now in
    let i = c.loop-i.i in
    let first = ap (λ (b : BlocksOutFields). b.extent.lba) c.blocks-2.view_is in
    let at : c.blocks-2.inside.extent.lba + c.from.result ≡ out.extent.lba + i =
    omega (arith, first, c.from.ensures) in
    let e = c.or_block.ensures in
    let pool = ap (λ (d : Disk). d.pool) inv.disk in
    record {
      disk = block-next c.remapping_takes_what_is_needed.ensures before (g.S.Store.disk c.loop-i.store) _
          out i _ _ inv.disk at c.block.ensures.bytes e.disk;
      counted = λ m over h. ranges-next (cost_bounds g.S.Store.price g.S.Store.least) before out
          (g.S.Store.disk c.loop-i.store) i _ over m _ inv.disk at (e.counted m _
          (subst (λ (n : ℕ). IsCounted (cost_bounds g.S.Store.price g.S.Store.least) n
          (over ++ flat_map (block_ranges before.contents out) (range_with_len 0 i)) m
          (g.S.Store.meter c.loop-i.store)) (sym pool) (inv.counted m over h)));
      visits = omega (arith, inv.visits, e.counts.visits);
      probes = omega (arith, inv.probes, e.counts.probes);
      links = omega (arith, inv.links, e.counts.links);
    }

pub returns-clause-counted : goal.returns-clause-counted
returns-clause-counted g c =
    let before = g.S.Store.disk c.args.store.now in
    let out = c.args.blocks.now in
    let count = ap (λ (b : BlocksOutFields). b.extent.count) c.blocks-2.view_is in
    let all : c.loop-i.i ≡ out.extent.count =
    omega (arith, c.loop-i-test.false, c.loop-i.auto.i-end, count) in
    λ first over h. subst (λ (n : ℕ). IsCounted (cost_bounds g.S.Store.price g.S.Store.least)
    before.pool (over ++ flat_map (block_ranges before.contents out) (range_with_len 0 n)) first
    (g.S.Store.meter c.loop-i.store)) all (c.loop-i.invariant.counted first over h)
