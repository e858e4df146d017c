use Rattle.std.proofs.Common.{◌≡◌, ◌-◌, length}
use Rattle.sg_changes.specs.Format.{many_at}
use Rattle.sg_changes.specs.ReservationFormat.{registration}
use Rattle.sg_changes.proofs.LoopLemmas.{with_front}
use Rattle.sg_changes.proofs.reservation_fields.many_registrations_at.Given as goal

-- the registrations so far, and then the others
abbrev pub invariant-loop : goal.invariant-loop
invariant-loop l = record {
  read : with_front l.registrations.items (many_at registration (l.count - l.counter) l.rest)
      ≡ many_at registration l.count l.bytes;
  count : length l.registrations.items ≡ l.counter;
}
