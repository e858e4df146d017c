use Rattle.std.proofs.Common.{ap, ◌∙◌}
use Rattle.sg_changes.specs.FirstRecord.{first_record}
use Rattle.sg_kept.specs.Opened.{begun}
use Rattle.sg_kept.proofs.OpeningLemmas.{added-first, begun-new, new-possible}
use Rattle.sg_kept.proofs.opening.add_first.Goals as goal

pub returns-clause-begun : goal.returns-clause-begun
returns-clause-begun c =
    let old = c.args.batch.now in
    let new = c.write.new.sink in
    ap begun (added-first new.sector old.sector new.records old.records (first_record.bytes c.args.disk.now)
    c.write.ensures.added c.requires.empty)
    ∙ begun-new c.first_records_are_exact.ensures c.args.disk.now c.write.ensures.possible

pub returns-clause-new : goal.returns-clause-new
returns-clause-new c = new-possible c.args.disk.now c.write.ensures.possible
