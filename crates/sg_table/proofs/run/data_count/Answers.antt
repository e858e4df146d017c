use Rattle.std.proofs.Common.{take, get_or, arith}
use Rattle.std.proofs.lemmas.List.{take_more}
use Rattle.std.proofs.lemmas.List.Elements.{All-push, All-same}
use Rattle.sg_table.specs.Records.{FitsCount}
use Rattle.sg_table.proofs.DataLemmas.{data-more}
use Rattle.sg_table.proofs.RecordLemmas.{no_run}
use Rattle.sg_table.proofs.run.data_count.Goals as goal

pub overflow_add-count : goal.overflow_add-count
overflow_add-count c = omega (
  arith,
  c.loop-run.invariant.fits,
  c.data_count-count.ensures.fits,
  c.loop-run-test.true,
  c.requires,
)

pub loop-run-preserved : goal.loop-run-preserved
loop-run-preserved c =
    let inv = c.loop-run.invariant in
    let rs = c.args.records.now in
    let i = c.loop-run.run-index in
    let more = data-more rs i no_run c.loop-run-test.true in
    record {
      value = omega (arith, inv.value, c.data_count-count.ensures.value, more);
      fits = omega (arith, inv.fits, c.data_count-count.ensures.fits);
      short = All-same FitsCount _ _ (take_more rs i no_run c.loop-run-test.true)
          (All-push FitsCount (take i rs) (get_or rs i no_run) inv.short
          (omega (arith, c.data_count-count.ensures.value, c.data_count-count.ensures.fits)));
    }
