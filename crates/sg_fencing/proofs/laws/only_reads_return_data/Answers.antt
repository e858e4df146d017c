use Rattle.sg_fencing.proofs.DataLemmas.{only-reads}
use Rattle.sg_fencing.proofs.laws.only_reads_return_data.Goals as goal

pub returns : goal.returns
returns c = only-reads c.remapping_takes_what_is_needed.ensures
