use Rattle.sg_target.proofs.NamedBlocksLemmas.{writes-name}
use Rattle.sg_target.proofs.laws.writes_name_blocks_of_the_disk.Goals as goal

pub returns : goal.returns
returns c = writes-name
