use Rattle.std.proofs.Common.{◌-◌, ◌≤◌, length, take}
use Rattle.sg_table.specs.Leaves.{IsAppended}
use Rattle.sg_table.proofs.leaves.splicing.append.Given as goal

-- the first records are appended
abbrev pub invariant-loop-done : goal.invariant-loop-done
invariant-loop-done l = record {
  within : l.done ≤ length l.runs;
  appended : IsAppended l.initial.leaves l.leaves l.leaf l.last (take l.done l.runs);
}

abbrev pub decreases-loop-done : goal.decreases-loop-done
decreases-loop-done l = length l.runs - l.done
