use Rattle.std.proofs.Common.{◌≡◌, ℕ, ◌<◌, ◌≤◌, slice_index}
use Rattle.sg_pool.specs.Chains.{slot_after}
use Rattle.sg_pool.specs.Jumps.{AreJumpsOver}
use Rattle.sg_pool.proofs.jumps.lay.Given as goal

-- the links of `laid` slots have their owner, and there is no jump yet
abbrev pub invariant-loop-i : goal.invariant-loop-i
invariant-loop-i l = record {
  derived : AreJumpsOver l.next l.owner l.jump l.target;
  laid : l.laid ≡ l._i;
  limit : l.laid ≤ l.limit;
  slot : l.slot ≡ slot_after l.next l.first l.laid;
  free : 0 < l.laid → slice_index l.jump l.first ≡ 0;
  mine : (j : ℕ) → j < l.laid → slice_index l.owner (slot_after l.next l.first j) ≡ l.first;
}
