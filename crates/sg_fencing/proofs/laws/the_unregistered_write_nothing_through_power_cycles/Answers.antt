use Rattle.sg_fencing.proofs.PowerLemmas.{stays-fenced-off}
use Rattle.sg_fencing.proofs.laws.the_unregistered_write_nothing_through_power_cycles.Goals as goal

pub returns : goal.returns
returns c state initiator events call unknown refused from writes held good =
    stays-fenced-off c.others_are_refused.ensures state initiator events call unknown refused from writes
    held good
