use Rattle.sg_target.proofs.CommandLemmas.{write-sames-leave}
use Rattle.sg_target.proofs.laws.write_sames_leave_their_block.Goals as goal

pub returns : goal.returns
returns c =
    write-sames-leave c.a_fill_maps_the_addresses_of_its_range.ensures
    c.a_fill_puts_one_block_at_each_address_of_its_range.ensures
    c.an_unmap_deallocates_the_addresses_of_its_range.ensures
    c.an_unmap_zeroes_the_blocks_of_its_range.ensures
    c.an_anchoring_anchors_the_addresses_of_its_range.ensures
    c.an_anchoring_zeroes_the_blocks_of_its_range.ensures
