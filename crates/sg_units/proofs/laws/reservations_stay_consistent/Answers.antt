use Rattle.sg_units.proofs.ConsistentChangeLemmas.{consistent-outcome}
use Rattle.sg_units.proofs.PowerLemmas.{consistent-power_on}
use Rattle.sg_units.proofs.laws.reservations_stay_consistent.Goals as goal

pub returns : goal.returns
returns c = record {
  changed = λ rules state i action scope_type list change h e.
      (consistent-outcome rules state i action scope_type list h).shown change e;
  power_cycle = consistent-power_on;
}
