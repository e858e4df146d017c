use Rattle.sg_units.proofs.LengthLemmas.{full-within}
use Rattle.sg_units.proofs.reservation_state.read_full_status.put_full_status.Goals as goal

pub returns-clause-at_most : goal.returns-clause-at_most
returns-clause-at_most c =
    full-within c.args.state.now c.as_slice-registrations.ensures.at_most
