use Rattle.sg_target.proofs.CommandLemmas.{unmaps-follow}
use Rattle.sg_target.proofs.laws.unmaps_follow_their_lists.Goals as goal

pub returns : goal.returns
returns c =
    unmaps-follow c.an_unmap_deallocates_each_extent.ensures
    c.an_anchoring_anchors_each_extent.ensures
