use Rattle.std.proofs.Common.{◌≡◌, ◌+◌, ◌-◌, ◌++◌, ◌≤◌, length, map, take, drop}
use Rattle.sg_table.proofs.leaves.shift.Given as goal

-- the numbers before the index are shifted, and the others are as they were
abbrev pub invariant-loop-start : goal.invariant-loop-start
invariant-loop-start l = record {
  within : l.start-index ≤ length l.initial.start-items;
  items : l.start-items ≡ map (λ s. s - l.less + l.more) (take l.start-index l.initial.start-items)
      ++ drop l.start-index l.initial.start-items;
}
