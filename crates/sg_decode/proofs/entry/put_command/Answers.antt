use Rattle.sg_wire.proofs.PrintingLemmas.{Prints-on}
use Rattle.sg_decode.proofs.entry.put_command.Goals as goal

pub returns : goal.returns
returns g c =
    Prints-on (rw c.command_line.ensures.line at c.put_line.ensures) c.put_command_timeouts.ensures
