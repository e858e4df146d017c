use Rattle.std.proofs.Common.{◌-◌, ◌<◌, ◌≤◌, length}
use Rattle.sg_table.specs.Leaves.{count_before}
use Rattle.sg_table.proofs.leaves.Leaves.locate_end.Given as goal

-- no leaf after the first one begins past the index
abbrev pub invariant-loop-last : goal.invariant-loop-last
invariant-loop-last l =
    let ls = l.self.leaves in
    record {
      order : l.leaf ≤ l.last;
      within : l.last < length ls;
      start : count_before ls l.last ≤ l.index;
    }

abbrev pub decreases-loop-last : goal.decreases-loop-last
decreases-loop-last l = length l.self.leaves - l.last
