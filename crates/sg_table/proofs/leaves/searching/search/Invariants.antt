use Rattle.std.proofs.Common.{◌-◌}
use Rattle.sg_table.proofs.SearchLemmas.{IsSearched}
use Rattle.sg_table.proofs.leaves.searching.search.Given as goal

abbrev pub invariant-loop-low : goal.invariant-loop-low
invariant-loop-low g l = IsSearched l.fn.starts l.starts l.address l.low l.high

abbrev pub decreases-loop-low : goal.decreases-loop-low
decreases-loop-low g l = l.high - l.low
