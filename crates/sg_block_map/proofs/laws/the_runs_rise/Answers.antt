use Rattle.sg_block_map.proofs.RunLawLemmas.{runs-rise}
use Rattle.sg_block_map.proofs.laws.the_runs_rise.Goals as goal

pub returns : goal.returns
returns c = runs-rise
