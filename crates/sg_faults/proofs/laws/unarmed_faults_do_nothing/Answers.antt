use Rattle.sg_faults.specs.Places.{afterwards, at_medium, on_arrival}
use Rattle.sg_faults.proofs.UnarmedLemmas.{do-nothing, nothing-healed}
use Rattle.sg_faults.proofs.laws.unarmed_faults_do_nothing.Goals as goal

pub returns : goal.returns
returns c = record {
  on_arrival = do-nothing on_arrival;
  at_medium = do-nothing at_medium;
  afterwards = do-nothing afterwards;
  healing = nothing-healed;
}
