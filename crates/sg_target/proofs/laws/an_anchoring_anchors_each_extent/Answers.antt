use Rattle.sg_target.proofs.EachExtentLemmas.{anchors-each}
use Rattle.sg_target.proofs.laws.an_anchoring_anchors_each_extent.Goals as goal

pub returns : goal.returns
returns c = anchors-each c.an_anchoring_anchors_the_addresses_of_its_range.ensures
    c.an_anchoring_zeroes_the_blocks_of_its_range.ensures
