use Rattle.std.proofs.Common.{take}
use Rattle.sg_changes.specs.FaultFormat.{armed_fault}
use Rattle.sg_changes.specs.Format.{optional}
use Rattle.sg_changes.proofs.WritingLemmas.{TakesAll}
use Rattle.sg_changes.proofs.fault_writing.put_faults.Given as goal

-- the values so far are written
abbrev pub invariant-loop-slot : goal.invariant-loop-slot
invariant-loop-slot g l =
    TakesAll g.S.Sink.contents g.S.Sink.room (optional armed_fault) 411 l.fn.sink l.sink
    (take l.slot-index l.slot-items)
