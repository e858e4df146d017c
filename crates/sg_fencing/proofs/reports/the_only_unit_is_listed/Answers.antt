use Rattle.sg_fencing.proofs.ReportLemmas.{unit-listed}
use Rattle.sg_fencing.proofs.reports.the_only_unit_is_listed.Goals as goal

pub returns : goal.returns
returns c = unit-listed
