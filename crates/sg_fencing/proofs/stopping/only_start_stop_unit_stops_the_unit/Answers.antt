use Rattle.sg_fencing.proofs.StoppingLemmas.{only-start-stop}
use Rattle.sg_fencing.proofs.stopping.only_start_stop_unit_stops_the_unit.Goals as goal

pub returns : goal.returns
returns c = only-start-stop
