use Rattle.sg_units.specs.ReserveOut.{IsConsistentChange}
use Rattle.sg_units.proofs.ConsistentChangeLemmas.{consistent-outcome}
use Rattle.sg_units.proofs.OutcomeLemmas.{if-ok}
use Rattle.sg_units.proofs.reservations.Reservations.change.Goals as goal

pub returns-clause-consistent : goal.returns-clause-consistent
returns-clause-consistent c =
    let a = c.args in
    if-ok IsConsistentChange _ _ c.outcome.ensures
    (consistent-outcome a.rules _ a.caller a.action a.scope_type a.list.now c.self.invariant)
