use Rattle.std.proofs.Common.{◌∙◌, List, ap, get_or, sym}
use Rattle.sg_table.specs.Table.{Table}
use Rattle.sg_table.specs.declared.run.Run.{Run}
use Rattle.sg_table.proofs.RecordLemmas.{start_of-read}
use Rattle.sg_table.proofs.table.RunTable.start.Goals as goal

pub returns-clause-value : goal.returns-clause-value
returns-clause-value c =
    let records = ap (λ (t : Table). t.records) c.self.view_is in
    let read = ap (λ (l : List Run). get_or l c.args.index c.record.result) (sym records)
    ∙ c.record.ensures.value in
    start_of-read c.args.self.now.records c.args.index c.record.result c.requires.index (sym read)
