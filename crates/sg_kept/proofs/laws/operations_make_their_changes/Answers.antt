use Rattle.sg_kept.proofs.OperationLemmas.{make-their-changes}
use Rattle.sg_kept.proofs.laws.operations_make_their_changes.Goals as goal

pub returns : goal.returns
returns c = make-their-changes
