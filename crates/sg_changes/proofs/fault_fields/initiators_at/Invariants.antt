use Rattle.std.proofs.Common.{◌≡◌, ◌-◌, length, take}
use Rattle.sg_wire.specs.Initiator.{initiator_count}
use Rattle.sg_changes.specs.Format.{flag, many_at}
use Rattle.sg_changes.proofs.LoopLemmas.{with_front}
use Rattle.sg_changes.proofs.fault_fields.initiators_at.Given as goal

-- the values so far, and then the others
abbrev pub invariant-loop-number : goal.invariant-loop-number
invariant-loop-number l = record {
  read : with_front (take l.number l.members) (many_at flag (initiator_count - l.number) l.rest) ≡
      many_at flag initiator_count l.bytes;
  size : length l.members ≡ initiator_count;
}
