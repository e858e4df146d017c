use Rattle.sg_units.proofs.LawLemmas.{generation_counts}
use Rattle.sg_units.proofs.laws.generation_counts_changes.Goals as goal

pub returns : goal.returns
returns c rules state i action scope_type list h =
    generation_counts rules state i action scope_type list h
