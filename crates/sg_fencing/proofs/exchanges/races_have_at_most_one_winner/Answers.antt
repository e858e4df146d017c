use Rattle.sg_fencing.proofs.RaceLemmas.{decided}
use Rattle.sg_fencing.proofs.exchanges.races_have_at_most_one_winner.Goals as goal

pub returns : goal.returns
returns c =
    decided c.limits_are_kept.ensures c.exchanges_replace_what_they_expect.ensures
    c.commands_write_only_their_blocks.ensures c.the_configuration_stays.ensures
