use Rattle.sg_target.proofs.WrittenBlocksLemmas.{overwrite-theirs}
use Rattle.sg_target.proofs.laws.commands_overwrite_their_blocks.Goals as goal

pub returns : goal.returns
returns c = overwrite-theirs
