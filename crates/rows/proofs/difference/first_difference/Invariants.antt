use Rattle.std.proofs.Common.{length, ◌-◌, ◌≡◌, ◌≤◌, take}
use Rattle.rows.proofs.difference.first_difference.Given as goal

abbrev pub invariant-loop-index : goal.invariant-loop-index
invariant-loop-index l = record {
  within_expected : l.index ≤ length l.expected;
  within_printed : l.index ≤ length l.printed;
  alike : take l.index l.expected ≡ take l.index l.printed;
}

abbrev pub decreases-loop-index : goal.decreases-loop-index
decreases-loop-index l = length l.expected - l.index
