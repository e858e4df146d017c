use Rattle.sg_wire.proofs.PrintingLemmas.{Prints-on}
use Rattle.sgrun.specs.ShownDisk.{reservation_lines}
use Rattle.sgrun.proofs.show_disk.put_reservations.Goals as goal

pub returns : goal.returns
unfolding reservation_lines
returns g c =
    Prints-on (rw c.persist_through_power_loss.ensures at c.put_flag_line.ensures)
    (Prints-on (rw c.registrations.ensures.value at c.put_registrations.ensures)
    (rw c.reservation.ensures at c.put_reservation.ensures))
