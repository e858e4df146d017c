use Rattle.std.proofs.Common.{arith}
use Rattle.sg_table.specs.declared.run.Kind.TheVariants.{Data}
use Rattle.sg_table.specs.declared.run.Run.{Run}
use Rattle.sg_store.specs.Disk.{max_capacity}
use Rattle.sg_block_map.proofs.GatheringLemmas.{end-within}
use Rattle.sg_block_map.proofs.gather.used_between.Goals as goal

pub overflow_add-run : goal.overflow_add-run
overflow_add-run c =
    let none : Run = record { start = 0; count = 0; first = 0; last = 0; kind = Data } in
    let within = end-within c.args.runs.now 0 max_capacity c.loop-run.run-index none c.requires.runs
    c.loop-run-test.true in
    record { fits = omega (arith, within, c.from.ensures) }
