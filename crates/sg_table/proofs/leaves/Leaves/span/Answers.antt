use Rattle.std.proofs.Common.{◌+◌, ap, arith}
use Rattle.sg_table.specs.Leaves.{LeafTable}
use Rattle.sg_table.proofs.LeavesLemmas.{start-read}
use Rattle.sg_table.proofs.leaves.Leaves.span.Goals as goal

pub returns-clause-span : goal.returns-clause-span
returns-clause-span c =
    let ls = c.args.self.now.leaves in
    let leaf = c.args.leaf in
    let leaves = c.self.inside.leaves.leaves in
    let starts = c.self.inside.starts.items in
    let same = ap (λ (l : LeafTable). l.leaves) c.self.view_is in
    record {
      within = c.requires;
      start = start-read leaves starts ls leaf _ c.self.invariant.0 same (omega arith) c.index.ensures;
      end = start-read leaves starts ls (leaf + 1) _ c.self.invariant.0 same (omega arith) c.index-2.ensures;
    }
