use Rattle.std.proofs.Common.{◌∙◌, List, ap, get_or, length, sym, arith}
use Rattle.sg_table.specs.Leaves.{LeafTable, leaf_at}
use Rattle.sg_table.specs.Table.{Table}
use Rattle.sg_table.specs.declared.run.Run.{Run}
use Rattle.sg_table.proofs.PlaceLemmas.{record-place}
use Rattle.sg_table.proofs.table.RunTable.record.Goals as goal

pub returns-clause-value : goal.returns-clause-value
returns-clause-value c =
    let ls = c.self.inside.leaves.leaves in
    let place = c.locate-place.result in
    let run = c.record.result in
    let view = ap (λ (t : Table). t.records) c.self.view_is in
    let same = ap (λ (t : LeafTable). t.leaves) c.locate-place.ensures.leaves in
    let within = c.locate-place.ensures.within (omega (arith, ap length view, c.requires)) in
    ap (λ (l : List Run). get_or l c.args.index run) (sym view)
    ∙ record-place ls c.args.index place run c.locate-place.ensures.place within
    ∙ ap (λ (l : List (List Run)). get_or (leaf_at l place.leaf) place.offset run) (sym same)
    ∙ c.record.ensures
