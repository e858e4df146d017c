use Rattle.std.proofs.Common.{◌+◌, arith}
use Rattle.std.proofs.lemmas.List.Sums.{sum_by_more, sum_by-take-le}
use Rattle.sg_store.specs.Disk.{max_capacity}
use Rattle.sg_table.specs.declared.run.Kind.TheVariants.{Data}
use Rattle.sg_table.specs.declared.run.Run.{Run}
use Rattle.sg_extent_map.specs.Gathering.{overlap}
use Rattle.sg_extent_map.proofs.AddressLemmas.{end-within}
use Rattle.sg_extent_map.proofs.OverlapLemmas.{overlaps-le}
use Rattle.sg_extent_map.proofs.gather.used_between.Goals as goal

abbrev no_run : Run
no_run = record { start = 0; count = 0; first = 0; last = 0; kind = Data }

pub overflow_add-run : goal.overflow_add-run
overflow_add-run c =
    let within = end-within c.args.runs.now 0 max_capacity c.loop-run.run-index no_run c.requires
    c.loop-run-test.true in
    record { fits = omega (arith, within, c.from.ensures) }

pub overflow_add-used : goal.overflow_add-used
overflow_add-used c =
    let runs = c.args.runs.now in
    let more = sum_by_more (overlap c.args.low c.args.high) runs c.loop-run.run-index no_run
    c.loop-run-test.true in
    let part = sum_by-take-le (overlap c.args.low c.args.high) runs (c.loop-run.run-index + 1) in
    let all = overlaps-le runs 0 max_capacity c.args.low c.args.high c.requires in
    record {
      fits = omega (
        arith,
        more,
        part,
        all,
        c.loop-run.invariant,
        c.from.ensures,
        c.min-end.ensures,
        c.max.ensures,
        c.saturating_sub-used.ensures,
      );
    }

pub returns-clause-fits : goal.returns-clause-fits
returns-clause-fits c =
    let runs = c.args.runs.now in
    let part = sum_by-take-le (overlap c.args.low c.args.high) runs c.loop-run.run-index in
    let all = overlaps-le runs 0 max_capacity c.args.low c.args.high c.requires in
    omega (arith, part, all, c.loop-run.invariant)
