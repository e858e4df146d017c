use Rattle.sg_target.proofs.WrittenBlocksLemmas.{write-only-theirs}
use Rattle.sg_target.proofs.laws.commands_write_only_their_blocks.Goals as goal

pub returns : goal.returns
returns c =
    write-only-theirs c.remapping_takes_what_is_needed.ensures
    c.an_unmap_deallocates_each_extent.ensures c.an_anchoring_anchors_each_extent.ensures
