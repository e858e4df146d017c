use Rattle.std.proofs.Common.{◌+◌, ap, arith}
use Rattle.sg_table.specs.Leaves.{LeafTable}
use Rattle.sg_table.proofs.LeavesLemmas.{start-read, placed, not-last}
use Rattle.sg_table.proofs.leaves.Leaves.locate_end.Goals as goal

pub loop-last-preserved : goal.loop-last-preserved
loop-last-preserved c =
    let ls = c.args.self.now.leaves in
    let last = c.loop-last.last in
    let inv = c.loop-last.invariant in
    let same = ap (λ (l : LeafTable). l.leaves) c.self.view_is in
    let start = start-read c.self.inside.leaves.leaves c.self.inside.starts.items ls (last + 1) _
    c.self.invariant.0 same (omega arith) c.index.ensures in
    record {
      order = omega arith;
      within = not-last ls (last + 1) (omega arith) (omega arith);
      start = omega arith;
    }

pub overflow_sub-result : goal.overflow_sub-result
overflow_sub-result c =
    let same = ap (λ (l : LeafTable). l.leaves) c.self.view_is in
    let inv = c.loop-last.invariant in
    let start = start-read c.self.inside.leaves.leaves c.self.inside.starts.items c.args.self.now.leaves
    c.loop-last.last _ c.self.invariant.0 same (omega arith) c.index-2.ensures in
    omega arith

pub returns-clause-place : goal.returns-clause-place
returns-clause-place c =
    let ls = c.args.self.now.leaves in
    let last = c.loop-last.last in
    let inv = c.loop-last.invariant in
    let same = ap (λ (l : LeafTable). l.leaves) c.self.view_is in
    let leaves = c.self.inside.leaves.leaves in
    let starts = c.self.inside.starts.items in
    let start = start-read leaves starts ls last _ c.self.invariant.0 same (omega arith) c.index-2.ensures in
    let next = start-read leaves starts ls (last + 1) _ c.self.invariant.0 same (omega arith)
    c.index.ensures in
    placed ls c.args.index last _ inv.within start (omega arith) (omega arith)
