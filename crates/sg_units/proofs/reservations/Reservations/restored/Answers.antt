use Rattle.std.proofs.Common.{◌≡◌, true, rules}
use Rattle.sg_units.specs.Restored.{are_consistent}
use Rattle.sg_units.proofs.RestoredLemmas.{consistent-shown}
use Rattle.sg_units.proofs.reservations.Reservations.restored.Goals as goal

pub invariant_of-result : goal.invariant_of-result
invariant_of-result c =
    let passed : are_consistent c.in_ok-registrations.registrations c.args.reservation ≡ true = search
    rules in
    consistent-shown c.in_ok-registrations.registrations c.args.reservation passed
