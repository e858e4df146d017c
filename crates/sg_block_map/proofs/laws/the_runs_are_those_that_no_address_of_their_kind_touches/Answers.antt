use Rattle.sg_block_map.proofs.RunLawLemmas.{maximal-runs}
use Rattle.sg_block_map.proofs.laws.the_runs_are_those_that_no_address_of_their_kind_touches.Goals as goal

pub returns : goal.returns
returns c = maximal-runs
