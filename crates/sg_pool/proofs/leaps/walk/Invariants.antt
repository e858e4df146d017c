use Rattle.std.proofs.Common.{◌≡◌, ℕ, List, ◌+◌, ◌-◌, ◌≤◌, length, sum}
use Rattle.sg_pool.specs.Chains.{slot_after}
use Rattle.sg_pool.specs.Jumps.{AreJumps, AreLeaps, AreLeapsAhead}
use Rattle.sg_pool.proofs.WayLemmas.{IsOnWay}
use Rattle.sg_pool.proofs.leaps.walk.Given as goal

-- `left` links are left, of all but the ones that were passed
abbrev pub invariant-loop-left : goal.invariant-loop-left
invariant-loop-left l = record {
  jumps : AreJumps l.next l.jumps;
  leaps : AreLeaps l.jumps l.leaps;
  left : l.left ≤ l.count;
  slot : l.slot ≡ slot_after l.next l.first (l.count - l.left);
  steps : l.steps + l.left ≤ l.count;
  way : (ahead : List ℕ)
      → AreLeapsAhead l.next l.fn.leaps.count.items l.fn.leaps.reach.items l.first ahead
      → l.count ≤ sum ahead
      → IsOnWay l.next l.jumps.count.items l.jumps.target.items l.leaps.count.items l.leaps.reach.items
      l.slot l.left l.steps (length ahead);
}

abbrev pub decreases-loop-left : goal.decreases-loop-left
decreases-loop-left l = l.left
