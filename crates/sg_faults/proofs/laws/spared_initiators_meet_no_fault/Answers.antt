use Rattle.std.proofs.Common.{refl}
use Rattle.sg_faults.specs.Laws.{has_nothing_left}
use Rattle.sg_faults.specs.Places.{afterwards, at_medium, on_arrival}
use Rattle.sg_faults.proofs.QuietLemmas.{healed-quiet}
use Rattle.sg_faults.proofs.SparedLemmas.{spared}
use Rattle.sg_faults.proofs.laws.spared_initiators_meet_no_fault.Goals as goal

pub returns : goal.returns
returns c = record {
  on_arrival = spared on_arrival;
  at_medium = spared at_medium;
  afterwards = spared afterwards;
  healing = λ command faults e.
      healed-quiet command (has_nothing_left command.initiator) refl faults e;
}
