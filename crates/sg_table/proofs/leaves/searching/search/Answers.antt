use Rattle.std.proofs.Common.{length, arith}
use Rattle.sg_table.proofs.HalvingLemmas.{halvings-fit}
use Rattle.sg_table.proofs.SearchLemmas.{searched-before, searched-behind}
use Rattle.sg_table.proofs.leaves.searching.search.Goals as goal

pub start-requires-clause-headroom : goal.start-requires-clause-headroom
start-requires-clause-headroom g c =
    omega (
      arith,
      halvings-fit _ (length c.args.starts.now.starts) c.loop-low.invariant.window.cost
          (omega (arith, c.len-high.ensures, c.len-high.type_inv)),
    )

-- the addresses that a step leaves
pub loop-low-preserved-then-start-address : goal.loop-low-preserved-then-start-address
loop-low-preserved-then-start-address g c =
    searched-behind _ _ _ _ c.loop-low.low c.loop-low.high _ c.requires.rising c.loop-low.invariant
    c.loop-low-test.true c.start.ensures.probed c.start.ensures.value c.if-start-address.true

pub loop-low-preserved : goal.loop-low-preserved
loop-low-preserved g c =
    searched-before _ _ _ _ c.loop-low.low c.loop-low.high _ c.requires.rising c.loop-low.invariant
    c.loop-low-test.true c.start.ensures.probed c.start.ensures.value c.if-start-address.false
