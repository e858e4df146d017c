use Rattle.sg_target.proofs.EachExtentLemmas.{unmaps-each}
use Rattle.sg_target.proofs.laws.an_unmap_deallocates_each_extent.Goals as goal

pub returns : goal.returns
returns c = unmaps-each c.an_unmap_deallocates_the_addresses_of_its_range.ensures
    c.an_unmap_zeroes_the_blocks_of_its_range.ensures
