use Rattle.std.proofs.Common.{ap}
use Rattle.sg_wire.specs.OutList.{list_of}
use Rattle.sg_wire.specs.Profile.{rules_of}
use Rattle.sg_target.specs.ReservationCommands.{reservation_change}
use Rattle.sg_target.specs.State.{profile_of}
use Rattle.sg_fencing.proofs.RoomLemmas.{not-refused, others-below, outcome-room}
use Rattle.sg_fencing.proofs.room.registrations_have_room.Goals as goal

pub returns : goal.returns
unfolding reservation_change
returns c state initiator action scope_type bytes limits only extended known =
    let roomy = ap (λ profile. (rules_of profile).has_room_for_all_registrations) extended in
    not-refused _
    (outcome-room (rules_of (profile_of state)) state.reservations initiator roomy limits.registered only
    known (list_of action bytes) (λ n h. others-below action bytes n h) action scope_type)
