use Rattle.sg_target.proofs.FaultLawLemmas.{drop-or-shorten}
use Rattle.sg_target.proofs.laws.faults_only_drop_or_shorten.Goals as goal

pub returns : goal.returns
returns c = drop-or-shorten
