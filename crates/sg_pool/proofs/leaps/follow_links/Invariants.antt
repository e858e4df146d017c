use Rattle.std.proofs.Common.{◌≡◌}
use Rattle.sg_pool.specs.Chains.{slot_after}
use Rattle.sg_pool.proofs.leaps.follow_links.Given as goal

-- `_i` links were followed
abbrev pub invariant-loop-i : goal.invariant-loop-i
invariant-loop-i l = l.slot ≡ slot_after l.next l.first l._i
