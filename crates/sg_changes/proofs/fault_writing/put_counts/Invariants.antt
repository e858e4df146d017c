use Rattle.std.proofs.Common.{take}
use Rattle.sg_changes.specs.FaultFormat.{count}
use Rattle.sg_changes.proofs.WritingLemmas.{TakesAll}
use Rattle.sg_changes.proofs.fault_writing.put_counts.Given as goal

-- the values so far are written
abbrev pub invariant-loop-count : goal.invariant-loop-count
invariant-loop-count g l =
    TakesAll g.S.Sink.contents g.S.Sink.room count 5 l.fn.sink l.sink
    (take l.count-index l.counts)
