use Rattle.std.proofs.Common.{take}
use Rattle.sg_changes.specs.Format.{flag}
use Rattle.sg_changes.proofs.WritingLemmas.{TakesAll}
use Rattle.sg_changes.proofs.fault_writing.put_initiators.Given as goal

-- the values so far are written
abbrev pub invariant-loop-is_member : goal.invariant-loop-is_member
invariant-loop-is_member g l =
    TakesAll g.S.Sink.contents g.S.Sink.room flag 1 l.fn.sink l.sink
    (take l.is_member-index l.is_member-items)
