use Rattle.sg_units.proofs.LengthLemmas.{keys-within}
use Rattle.sg_units.proofs.reservation_state.ReservationState.read_keys.Goals as goal

pub returns-clause-at_most : goal.returns-clause-at_most
returns-clause-at_most c =
    keys-within c.args.self.now c.as_slice-registrations.ensures.at_most
