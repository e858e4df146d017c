use Rattle.std.proofs.Common.{◌≡◌, ◌-◌, length, take}
use Rattle.sg_wire.specs.Initiator.{initiator_count}
use Rattle.sg_changes.specs.Format.{many_at}
use Rattle.sg_changes.specs.FaultFormat.{count}
use Rattle.sg_changes.proofs.LoopLemmas.{with_front}
use Rattle.sg_changes.proofs.fault_fields.counts_at.Given as goal

-- the values so far, and then the others
abbrev pub invariant-loop-number : goal.invariant-loop-number
invariant-loop-number l = record {
  read : with_front (take l.number l.counts) (many_at count (initiator_count - l.number) l.rest) ≡
      many_at count initiator_count l.bytes;
  size : length l.counts ≡ initiator_count;
}
