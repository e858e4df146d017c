use Rattle.sg_target.proofs.CommandLemmas.{reads-return}
use Rattle.sg_target.proofs.laws.reads_return_their_blocks.Goals as goal

pub returns : goal.returns
returns c = reads-return
