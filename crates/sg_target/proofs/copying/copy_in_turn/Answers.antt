use Rattle.std.proofs.Common.{◌≡◌, ◌<◌, ◌+◌, ◌++◌, ◌∙◌, ℕ, List, ap, ap₂, subst, sym, arith}
use Rattle.std.proofs.lemmas.List.{append-nil}
use Rattle.std.specs.FinMap.{len}
use Rattle.std.specs.List.{flat_map, range_with_len}
use Rattle.sg_copy.specs.declared.copy_list.Segment.{Segment}
use Rattle.sg_store.specs.Disk.{Contents, Disk, need}
use Rattle.sg_target.specs.Charge.{IsCounted, cost_bounds}
use Rattle.sg_target.specs.Ranges.{Range, copied_so_far, next_copied, step_ranges}
use Rattle.sg_target.proofs.CopyingLemmas.{all-copied, block-next, none-copied, ranges-next, room-next}
use Rattle.sg_target.proofs.copying.copy_in_turn.Goals as goal

pub loop-done-init : goal.loop-done-init
loop-done-init g c = record {
  disk = none-copied _ _;
  counted = λ first over h. subst (λ (xs : List Range). IsCounted
      (cost_bounds g.S.Store.price g.S.Store.least) (g.S.Store.disk c.args.store.now).pool xs first
      (g.S.Store.meter c.args.store.now)) (sym (append-nil over)) h;
  visits = omega arith;
  probes = omega arith;
  links = omega arith;
}

pub copy_block-requires-clause-room : goal.copy_block-requires-clause-room
copy_block-requires-clause-room g c =
    let before = g.S.Store.disk c.args.store.now in
    let s = c.args.blocks.now in
    let done = c.loop-done.done in
    let view = c.blocks-2.view_is in
    let below : done < s.blocks =
    omega (arith, c.loop-done-test.true, ap (λ (s : Segment). s.blocks) view) in
    let left = ap (λ (d : Disk). d.contents) c.loop-done.invariant.disk in
    let pool = ap (λ (d : Disk). d.pool) c.loop-done.invariant.disk in
    let at : c.blocks-2.inside.segment.destination + c.from-index.result
    ≡ s.destination + next_copied s done =
    ap₂ (λ (a b : ℕ). a + b) (ap (λ (s : Segment). s.destination) view)
    (c.from-index.ensures ∙ c.next.ensures) in
    let next = room-next c.remapping_takes_what_is_needed.ensures before.contents s done below in
    omega (
      arith,
      next,
      ap len left,
      ap₂ (λ (m : Contents) (a : ℕ). need m a 1) left at,
      pool,
      c.requires.room,
    )

pub loop-done-preserved : goal.loop-done-preserved
loop-done-preserved g c =
    let inv = c.loop-done.invariant in
    let before = g.S.Store.disk c.args.store.now in
    let now = g.S.Store.disk c.loop-done.store in
    let s = c.args.blocks.now in
    let done = c.loop-done.done in
    let view = c.blocks-2.view_is in
    let below : done < s.blocks =
    omega (arith, c.loop-done-test.true, ap (λ (s : Segment). s.blocks) view) in
    let index = c.from-index.ensures ∙ c.next.ensures in
    let from : c.blocks-2.inside.segment.source + c.from-index.result ≡ s.source + next_copied s done =
    ap₂ (λ (a b : ℕ). a + b) (ap (λ (s : Segment). s.source) view) index in
    let to : c.blocks-2.inside.segment.destination + c.from-index.result
    ≡ s.destination + next_copied s done =
    ap₂ (λ (a b : ℕ). a + b) (ap (λ (s : Segment). s.destination) view) index in
    let e = c.copy_block.ensures in
    let bounds = cost_bounds g.S.Store.price g.S.Store.least in
    let pool = ap (λ (d : Disk). d.pool) inv.disk in
    record {
      disk = block-next c.remapping_takes_what_is_needed.ensures before now _ s done _ _ below inv.disk
          from to e.disk;
      counted = λ m over h. ranges-next bounds before s now done _ _ over m _ inv.disk from to
          (e.counted m _ (subst (λ (n : ℕ). IsCounted bounds n
          (over ++ flat_map (step_ranges before.contents s) (range_with_len 0 done)) m
          (g.S.Store.meter c.loop-done.store)) (sym pool) (inv.counted m over h)));
      visits = omega (arith, inv.visits, e.counts.visits);
      probes = omega (arith, inv.probes, e.counts.probes);
      links = omega (arith, inv.links, e.counts.links);
    }

pub returns-clause-disk : goal.returns-clause-disk
returns-clause-disk g c =
    let before = g.S.Store.disk c.args.store.now in
    let s = c.args.blocks.now in
    let count = ap (λ (s : Segment). s.blocks) c.blocks-2.view_is in
    let all : c.loop-done.done ≡ s.blocks =
    omega (arith, c.loop-done-test.false, c.loop-done.auto.done-end, count) in
    c.loop-done.invariant.disk
    ∙ ap (λ (n : ℕ). record before { contents = copied_so_far before.contents s n }) all
    ∙ ap (λ (m : Contents). record before { contents = m }) (all-copied before.contents s)

pub returns-clause-counted : goal.returns-clause-counted
returns-clause-counted g c =
    let before = g.S.Store.disk c.args.store.now in
    let s = c.args.blocks.now in
    let count = ap (λ (s : Segment). s.blocks) c.blocks-2.view_is in
    let all : c.loop-done.done ≡ s.blocks =
    omega (arith, c.loop-done-test.false, c.loop-done.auto.done-end, count) in
    λ first over h. subst (λ (n : ℕ). IsCounted (cost_bounds g.S.Store.price g.S.Store.least)
    before.pool (over ++ flat_map (step_ranges before.contents s) (range_with_len 0 n)) first
    (g.S.Store.meter c.loop-done.store)) all (c.loop-done.invariant.counted first over h)
