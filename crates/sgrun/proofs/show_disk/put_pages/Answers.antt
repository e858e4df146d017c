use Rattle.sg_wire.proofs.PrintingLemmas.{Prints-on}
use Rattle.sgrun.specs.ShownDisk.{page_lines}
use Rattle.sgrun.proofs.show_disk.put_pages.Goals as goal

pub returns : goal.returns
unfolding page_lines
returns g c =
    Prints-on (rw c.saves_wce.ensures at c.put_flag_line.ensures)
    (Prints-on c.put_hex_line.ensures (Prints-on c.put_hex_line-2.ensures
    (Prints-on c.put_hex_line-3.ensures
    (Prints-on c.put_hex_line-4.ensures c.put_provisioning.ensures))))
