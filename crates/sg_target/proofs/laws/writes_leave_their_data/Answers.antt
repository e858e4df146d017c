use Rattle.sg_target.proofs.CommandLemmas.{writes-leave}
use Rattle.sg_target.proofs.laws.writes_leave_their_data.Goals as goal

pub returns : goal.returns
returns c =
    writes-leave c.a_write_maps_the_addresses_of_its_range.ensures
    c.a_write_replaces_the_blocks_of_its_range.ensures
