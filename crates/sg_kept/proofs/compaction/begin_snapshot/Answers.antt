use Rattle.std.proofs.Common.{◌≡◌, length, ap, ◌∙◌, arith}
use Rattle.sg_journal.specs.BatchValue.{BatchValue}
use Rattle.sg_kept.proofs.CompactionLemmas.{if-ok, sector-most}
use Rattle.sg_kept.proofs.compaction.begin_snapshot.Goals as goal

pub returns-clause-at_most : goal.returns-clause-at_most
returns-clause-at_most g c =
    let most = sector-most c.args.journal.now.sector c.requires.kept.stands.valid in
    let count : length c.begin_rewrite.new.batch.records ≡ length c.add_head.new.batch.records =
    ap (λ (b : BatchValue). length b.records) (c.begin_rewrite.ensures.batch ∙ c.head-2.view_is) in
    if-ok c.begin_rewrite.result (omega (
      arith,
      c.begin_rewrite.ensures.drafted,
      most.1,
      count,
      c.add_head.ensures.at_most,
    ))
