use Rattle.std.proofs.Common.{◌+◌, ◌-◌, length, take, drop, get_or, arith}
use Rattle.std.proofs.lemmas.List.{get_or_default}
use Rattle.std.proofs.lemmas.List.Edits.{map_over_more}
use Rattle.sg_table.proofs.LeavesLemmas.{shift-none}
use Rattle.sg_table.proofs.leaves.shift.Goals as goal

pub loop-start-preserved : goal.loop-start-preserved
loop-start-preserved c =
    let starts = c.args.starts.now in
    let part = take (length starts - c.args.from) (drop c.args.from starts) in
    let i = c.loop-start.start-index in
    let items = c.loop-start.start-items in
    let inv = c.loop-start.invariant in
    let test = c.loop-start-test.true in
    record {
      within = omega arith;
      items = map_over_more (λ s. s - c.args.less + c.args.more) part items i (get_or items i 0) test
          inv.items (get_or_default items i 0 (get_or items i 0) (omega (
            arith,
            c.loop-start.auto.start-items,
          )));
    }

pub returns-then-less-more : goal.returns-then-less-more
returns-then-less-more c =
    shift-none c.args.starts.now c.args.from c.args.less c.args.more (omega arith) c.requires.less
