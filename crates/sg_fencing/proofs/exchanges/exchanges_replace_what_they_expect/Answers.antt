use Rattle.sg_fencing.proofs.ExchangeLemmas.{exchanges-replace}
use Rattle.sg_fencing.proofs.exchanges.exchanges_replace_what_they_expect.Goals as goal

pub returns : goal.returns
returns c =
    exchanges-replace c.a_write_maps_the_addresses_of_its_range.ensures
    c.a_write_replaces_the_blocks_of_its_range.ensures
