use Rattle.sg_fencing.proofs.RaceLemmas.{first-wins-race}
use Rattle.sg_fencing.proofs.exchanges.the_first_of_a_race_wins.Goals as goal

pub returns : goal.returns
returns c =
    first-wins-race c.limits_are_kept.ensures c.exchanges_replace_what_they_expect.ensures
    c.commands_write_only_their_blocks.ensures c.the_configuration_stays.ensures
    c.exchanges_that_nothing_forbids_end_with_good.ensures
