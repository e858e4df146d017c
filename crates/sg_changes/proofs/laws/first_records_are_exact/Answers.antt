use Rattle.sg_changes.proofs.FirstRecordLemmas.{first_record_exact}
use Rattle.sg_changes.proofs.laws.first_records_are_exact.Goals as goal

pub returns : goal.returns
returns c = first_record_exact
