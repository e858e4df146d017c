use Rattle.sg_wire.proofs.PrintingLemmas.{Prints-on, Prints-nil}
use Rattle.sg_decode.specs.Values.{type_names}
use Rattle.sg_decode.proofs.value.put_reservation_types.Goals as goal

pub returns : goal.returns
unfolding type_names
returns g c =
    Prints-on c.put_reservation_type.ensures (Prints-on c.put_reservation_type-2.ensures
    (Prints-on c.put_reservation_type-3.ensures
    (Prints-on c.put_reservation_type-4.ensures (Prints-on c.put_reservation_type-5.ensures
    (Prints-on c.put_reservation_type-6.ensures (Prints-nil _))))))
