use Rattle.sg_fencing.proofs.FreeExchangeLemmas.{free-exchanges}
use Rattle.sg_fencing.proofs.exchanges.exchanges_that_nothing_forbids_end_with_good.Goals as goal

pub returns : goal.returns
returns c =
    free-exchanges c.commands_have_their_class.ensures c.remapping_takes_what_is_needed.ensures
