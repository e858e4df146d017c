use Rattle.std.proofs.Common.{◌≡◌, ◌<◌, ℕ, get_or, length}
use Rattle.sg_wire.specs.Initiator.{initiator_count}
use Rattle.sg_faults.specs.Arming.{first_count, spent}
use Rattle.sg_faults.proofs.fault.ArmedFault.new.Given as goal

-- the counts so far
abbrev pub invariant-loop-number : goal.invariant-loop-number
invariant-loop-number l = record {
  size : length l.counts ≡ initiator_count;
  counted_so_far : (k : ℕ) → k < l.number → get_or l.counts k spent ≡ first_count l.fault k;
}
