use Rattle.std.proofs.Common.{refl}
use Rattle.sg_faults.specs.Laws.{is_unmet}
use Rattle.sg_faults.specs.Places.{afterwards, at_medium, on_arrival}
use Rattle.sg_faults.proofs.QuietLemmas.{healed-quiet}
use Rattle.sg_faults.proofs.UnmetLemmas.{unmet}
use Rattle.sg_faults.proofs.laws.unmet_faults_do_nothing.Goals as goal

pub returns : goal.returns
returns c = record {
  on_arrival = unmet on_arrival;
  at_medium = unmet at_medium;
  afterwards = unmet afterwards;
  healing = λ command faults e. healed-quiet command (is_unmet command) refl faults e;
}
