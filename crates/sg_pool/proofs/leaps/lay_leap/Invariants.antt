use Rattle.std.proofs.Common.{◌≡◌, ℕ, ◌*◌, ◌<◌, ◌≤◌, slice_index}
use Rattle.sg_pool.specs.Chains.{slot_after}
use Rattle.sg_pool.specs.Jumps.{AreLeapsOver, segment, span}
use Rattle.sg_pool.proofs.leaps.lay_leap.Given as goal

-- the jumps of `laid` slots have their owner, and there is no leap yet
abbrev pub invariant-loop-i : goal.invariant-loop-i
invariant-loop-i l =
    let jump = l.jumps.count.items in
    let target = l.jumps.target.items in
    record {
      leaps : AreLeapsOver jump target l.owner l.count l.landing l.reach;
      laid : l.laid ≡ l._i;
      slot : l.slot ≡ slot_after target l.first l.laid;
      passed : l.passed ≡ span jump target l.first l.laid;
      least : l.laid ≤ l.passed;
      most : l.passed ≤ segment * l.laid;
      mine : (j : ℕ) → j < l.laid → slice_index l.owner (slot_after target l.first j) ≡ l.first;
      live : (j : ℕ) → j < l.laid → 0 < slice_index jump (slot_after target l.first j);
    }
