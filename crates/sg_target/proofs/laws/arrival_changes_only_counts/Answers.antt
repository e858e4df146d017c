use Rattle.sg_target.proofs.FaultLawLemmas.{arrival-counts}
use Rattle.sg_target.proofs.laws.arrival_changes_only_counts.Goals as goal

pub returns : goal.returns
returns c = arrival-counts
