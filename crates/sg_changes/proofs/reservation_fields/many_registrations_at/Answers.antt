use Rattle.std.proofs.Common.{List, ap, arith, ◌∙◌, ◌-◌, ◌+◌}
use Rattle.sg_units.specs.declared.registrations.Registration.{Registration}
use Rattle.sg_changes.specs.Format.{many_at}
use Rattle.sg_changes.specs.ReservationFormat.{registration}
use Rattle.sg_changes.proofs.LoopLemmas.{ends, goes_on, is_done, with_front}
use Rattle.sg_changes.proofs.reservation_fields.many_registrations_at.Goals as goal

pub returns : goal.returns
returns c =
    is_done registration c.loop.registrations.items c.args.count c.loop.counter c.loop.rest.now
    (many_at registration c.args.count c.args.bytes.now) c.loop-test.false c.loop.invariant.read

pub returns-in_default : goal.returns-in_default
returns-in_default c =
    ends registration c.loop.registrations.items c.args.count c.loop.counter c.loop.rest.now
    (many_at registration c.args.count c.args.bytes.now) c.loop-test.true c.in_default.ensures
    c.loop.invariant.read

pub loop-preserved : goal.loop-preserved
loop-preserved c = record {
  read =
      ap
      (λ (front : List Registration).
      with_front front (many_at registration (c.args.count - (c.loop.counter + 1)) c.in-Some.after.now))
      c.push.ensures.items
      ∙ goes_on registration c.loop.registrations.items c.args.count c.loop.counter c.loop.rest.now
      c.in-Some.registration c.in-Some.after.now (many_at registration c.args.count c.args.bytes.now)
      c.loop-test.true c.in-Some.ensures c.loop.invariant.read;
  count = omega (arith, c.push.ensures.len, c.loop.invariant.count);
}
