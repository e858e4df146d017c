use Rattle.sg_wire.proofs.PrintingLemmas.{Prints-on}
use Rattle.sg_run.proofs.execute.put_shown.Goals as goal

pub returns-clause-text : goal.returns-clause-text
returns-clause-text g c = Prints-on c.put_line_header.ensures c.put_answer.ensures
