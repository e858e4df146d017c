use Rattle.std.proofs.Common.{◌∙◌, length, ap, arith}
use Rattle.sg_table.specs.Leaves.{LeafTable, joined}
use Rattle.sg_table.proofs.LeavesLemmas.{directory-last}
use Rattle.sg_table.proofs.leaves.Leaves.count.Goals as goal

pub returns : goal.returns
returns c =
    let leaves = c.self.inside.leaves.leaves in
    let starts = c.self.inside.starts.items in
    let same = ap (λ (t : LeafTable). t.leaves) c.self.view_is in
    c.index.ensures ∙ directory-last leaves starts _ _ c.self.invariant.0 (omega arith)
    ∙ ap (λ x. length (joined x)) same
