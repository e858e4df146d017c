use Rattle.sg_target.proofs.EmptyingLemmas.{formats-empty}
use Rattle.sg_target.proofs.laws.formats_empty_the_disk.Goals as goal

pub returns : goal.returns
returns c =
    formats-empty c.an_unmap_deallocates_the_addresses_of_its_range.ensures
    c.an_unmap_zeroes_the_blocks_of_its_range.ensures
