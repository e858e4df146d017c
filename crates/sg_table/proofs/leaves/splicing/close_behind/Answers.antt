use Rattle.std.proofs.Common.{◌+◌, List, ap, ◌∙◌, length, arith}
use Rattle.std.specs.Prelude.{remove}
use Rattle.sg_table.specs.Leaves.{LeafTable, joined}
use Rattle.sg_table.specs.declared.run.Run.{Run}
use Rattle.sg_table.proofs.AppendLemmas.{count-without, removed-behind}
use Rattle.sg_table.proofs.leaves.splicing.close_behind.Goals as goal

pub close-requires-clause-count : goal.close-requires-clause-count
close-requires-clause-count c =
    omega (
      arith,
      ap (λ (t : LeafTable). length (joined t.leaves)) c.loop.invariant,
      count-without c.args.leaves.now.leaves (c.args.first + 1) (c.loop.counter + 1) (omega arith),
      c.requires.count,
    )

pub loop-preserved : goal.loop-preserved
loop-preserved c =
    let t = c.args.leaves.now in
    let n = c.args.first + 1 in
    c.close.ensures ∙ ap (λ (u : LeafTable). record u { leaves = remove u.leaves n }) c.loop.invariant
    ∙ ap (λ (ls : List (List Run)). record t { leaves = ls })
    (removed-behind t.leaves n (c.loop.counter + 1) (omega arith))
