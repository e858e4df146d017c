use Rattle.sg_journal.proofs.Whole.{gate_hides}
use Rattle.sg_journal.proofs.laws.a_closed_gate_hides_the_rest.Goals as goal

pub returns : goal.returns
returns c = gate_hides
