use Rattle.sg_wire.proofs.PrintingLemmas.{Prints-on}
use Rattle.sgrun.specs.ShownDisk.{identity_lines}
use Rattle.sgrun.proofs.show_disk.put_identity.Goals as goal

pub returns : goal.returns
unfolding identity_lines
returns g c =
    Prints-on (rw c.profile.ensures at c.put_profile.ensures)
    (Prints-on (rw c.takes_short_data_out.ensures at c.put_flag_line.ensures)
    (Prints-on (rw c.physical_block.ensures at c.put_physical.ensures)
    (Prints-on (rw c.vendor.ensures.value at c.put_name_line.ensures)
    (Prints-on (rw c.product.ensures.value at c.put_name_line-2.ensures)
    (Prints-on (rw c.revision.ensures.value at c.put_name_line-3.ensures)
    (Prints-on (rw c.serial.ensures.value at c.put_name_line-4.ensures)
    (rw c.local.ensures.value at c.put_digits_line.ensures)))))))
