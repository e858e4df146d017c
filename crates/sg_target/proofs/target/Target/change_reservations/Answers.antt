use Rattle.std.proofs.Common.{rules}
use Rattle.sg_target.specs.ReservationCommands.{reservation_change}
use Rattle.sg_target.proofs.target.Target.change_reservations.Goals as goal

pub returns-in-Ok : goal.returns-in-Ok
unfolding reservation_change
returns-in-Ok g c = record {
  answer = search rules;
  state = search rules;
  faults = search rules;
  charge = search rules;
}
