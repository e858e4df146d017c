use Rattle.std.proofs.Common.{◌+◌, ◌<◌, ◌≤◌, length}
use Rattle.sg_table.specs.Leaves.{count_before, joined}
use Rattle.sg_table.proofs.leaves.Leaves.leaf_of.Given as goal

-- the leaf is at `low` or after it
abbrev pub invariant-loop-count : goal.invariant-loop-count
invariant-loop-count l =
    let ls = l.self.leaves in
    record {
      some : 0 < l.count;
      within : l.low + l.count ≤ length ls;
      start : count_before ls l.low ≤ l.index;
      end : l.index ≤ count_before ls (l.low + l.count);
      record_end : l.index < length (joined ls) → l.index < count_before ls (l.low + l.count);
    }

abbrev pub decreases-loop-count : goal.decreases-loop-count
decreases-loop-count l = l.count
