use Rattle.std.proofs.Common.{◌∙◌, ap, sym}
use Rattle.sg_wire.specs.Cut.{answer_of}
use Rattle.sg_wire.specs.CutAnswer.{put}
use Rattle.sg_units.specs.ReserveIn.{descriptor, reservation_data, reservation_data_of}
use Rattle.sg_units.proofs.LengthLemmas.{reservation-within}
use Rattle.sg_units.proofs.reservation_state.ReservationState.read_reservation.Goals as goal

pub returns-in-Some-clause-at_most : goal.returns-in-Some-clause-at_most
returns-in-Some-clause-at_most c = reservation-within c.args.self.now

pub returns-in-None-clause-at_most : goal.returns-in-None-clause-at_most
returns-in-None-clause-at_most c = reservation-within c.args.self.now

pub returns-in-Some-clause-data : goal.returns-in-Some-clause-data
unfolding reservation_data
returns-in-Some-clause-data c =
    let state = c.args.self.now in
    let old = answer_of c.args.cut.now in
    c.put_descriptor.ensures
    ∙ (ap (λ a. put a (descriptor state c.in-Some.reservation))
    (c.put.ensures ∙ ap (put old) c.header.ensures)
    ∙ (c.parts_are_put_in_turn.ensures.in_turn old _ _
    ∙ ap (λ held. put old (reservation_data_of state held)) (sym c.in-Some.is)))
