use Rattle.std.proofs.Common.{◌≡◌, take}
use Rattle.sg_units.proofs.registrations.Registrations.of.Given as goal

abbrev pub invariant-loop-registration : goal.invariant-loop-registration
invariant-loop-registration l = l.items.items ≡ take l.registration-index l.registrations
