use Rattle.std.proofs.Common.{◌≡◌, take}
use Rattle.sg_units.specs.Registrations.{with_replaced}
use Rattle.sg_units.proofs.registrations.Registrations.with_replaced.Given as goal

abbrev pub invariant-loop-registration : goal.invariant-loop-registration
invariant-loop-registration l =
    let so_far = take l.registration-index l.registration-items in
    l.items.items ≡ with_replaced so_far l.new
