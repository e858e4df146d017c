use Rattle.std.proofs.Common.{◌≡◌, ◌+◌, ◌-◌, ◌/◌, ap, arith}
use Rattle.sg_table.specs.Leaves.{LeafTable}
use Rattle.sg_table.proofs.LeavesLemmas.{start-read, count_before-rise}
use Rattle.sg_table.proofs.leaves.Leaves.leaf_of.Goals as goal

pub loop-count-preserved-then-index : goal.loop-count-preserved-then-index
loop-count-preserved-then-index c =
    let inv = c.loop-count.invariant in
    let low = c.loop-count.low in
    let half = c.loop-count.count / 2 in
    let same = ap (λ (l : LeafTable). l.leaves) c.self.view_is in
    let start = start-read c.self.inside.leaves.leaves c.self.inside.starts.items c.args.self.now.leaves
    (low + half) _ c.self.invariant.0 same (omega arith) c.index.ensures in
    let order : low + half + (c.loop-count.count - half) ≡ low + c.loop-count.count = omega arith in
    record {
      some = omega arith;
      within = omega arith;
      start = omega arith;
      end = rw order inv.end;
      record_end = rw order inv.record_end;
    }

pub loop-count-preserved : goal.loop-count-preserved
loop-count-preserved c =
    let inv = c.loop-count.invariant in
    let low = c.loop-count.low in
    let half = c.loop-count.count / 2 in
    let ls = c.args.self.now.leaves in
    let same = ap (λ (l : LeafTable). l.leaves) c.self.view_is in
    let start = start-read c.self.inside.leaves.leaves c.self.inside.starts.items ls (low + half) _
    c.self.invariant.0 same (omega arith) c.index.ensures in
    let rise = count_before-rise ls (low + half) (low + (c.loop-count.count - half)) (omega arith)
    (omega arith) in
    record {
      some = omega arith;
      within = omega arith;
      start = inv.start;
      end = omega arith;
      record_end = λ _. omega arith;
    }
