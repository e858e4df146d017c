use Rattle.std.proofs.Common.{◌≡◌, ◌-◌, length, take}
use Rattle.sg_faults.specs.Faults.{max_faults}
use Rattle.sg_changes.specs.Format.{many_at, optional}
use Rattle.sg_changes.specs.FaultFormat.{armed_fault}
use Rattle.sg_changes.proofs.LoopLemmas.{with_front}
use Rattle.sg_changes.proofs.fault_fields.faults_at.Given as goal

-- the values so far, and then the others
abbrev pub invariant-loop-number : goal.invariant-loop-number
invariant-loop-number l = record {
  read : with_front (take l.number l.slots)
      (many_at (optional armed_fault) (max_faults - l.number) l.rest) ≡ many_at (optional armed_fault)
      max_faults l.bytes;
  size : length l.slots ≡ max_faults;
}
