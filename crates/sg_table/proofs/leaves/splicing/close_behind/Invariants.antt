use Rattle.std.proofs.Common.{◌≡◌, ◌+◌, ◌++◌, take, drop}
use Rattle.sg_table.proofs.leaves.splicing.close_behind.Given as goal

-- the leaves after the first one are closed up to the counter
abbrev pub invariant-loop : goal.invariant-loop
invariant-loop l =
    let ls = l.initial.leaves.leaves in
    l.leaves ≡ record l.initial.leaves {
      leaves = take (l.first + 1) ls ++ drop (l.counter + 1) ls;
    }
