use Rattle.std.proofs.Common.{List, length, set, ap, ◌∙◌, sym, arith}
use Rattle.sg_table.specs.Leaves.{LeafTable, joined, leaf_at}
use Rattle.sg_table.specs.declared.run.Run.{Run}
use Rattle.sg_table.proofs.BalanceLemmas.{count-merged, merged-at, whole-spliced}
use Rattle.sg_table.proofs.leaves.splicing.merge.Goals as goal

pub edit-requires-clause-count : goal.edit-requires-clause-count
edit-requires-clause-count c =
    let ls = c.args.leaves.now.leaves in
    let k = c.args.leaf in
    omega (
      arith,
      ap (λ (t : LeafTable). length (joined t.leaves)) c.close.ensures,
      (count-merged ls k c.requires.leaf).1,
      ap length c.requires.records,
      c.len-left.ensures.value,
      c.requires.count,
    )

pub returns-clause-leaves : goal.returns-clause-leaves
returns-clause-leaves c =
    let ls = c.args.leaves.now.leaves in
    let k = c.args.leaf in
    let all = c.args.records.now in
    let closed = ap (λ (t : LeafTable). t.leaves) c.close.ensures in
    let left = ap (λ (l : List (List Run)). leaf_at l k) closed ∙ (count-merged ls k c.requires.leaf).0 in
    ap (λ (t : LeafTable). t.leaves) c.edit.ensures
    ∙ ap (set c.close.new.self.leaves k) (whole-spliced (leaf_at c.close.new.self.leaves k) all
    c.len-left.result (c.len-left.ensures.value ∙ sym (ap length left)))
    ∙ ap (λ (l : List (List Run)). set l k all) closed
    ∙ merged-at ls k all c.requires.leaf
