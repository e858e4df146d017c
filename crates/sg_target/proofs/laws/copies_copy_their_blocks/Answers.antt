use Rattle.sg_target.proofs.CopyLawLemmas.{copies-copy}
use Rattle.sg_target.proofs.laws.copies_copy_their_blocks.Goals as goal

pub returns : goal.returns
returns c = copies-copy c.remapping_takes_what_is_needed.ensures
