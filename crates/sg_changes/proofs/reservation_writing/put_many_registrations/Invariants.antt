use Rattle.std.proofs.Common.{take}
use Rattle.sg_changes.specs.ReservationFormat.{registration}
use Rattle.sg_changes.proofs.WritingLemmas.{TakesAll}
use Rattle.sg_changes.proofs.reservation_writing.put_many_registrations.Given as goal

-- the registrations so far are written
abbrev pub invariant-loop-registration : goal.invariant-loop-registration
invariant-loop-registration g l =
    TakesAll g.S.Sink.contents g.S.Sink.room registration 9 l.fn.sink l.sink
    (take l.registration-index l.registrations)
