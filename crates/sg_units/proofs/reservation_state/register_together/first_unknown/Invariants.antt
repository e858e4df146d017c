use Rattle.std.proofs.Common.{◌≡◌}
use Rattle.std.specs.Prelude.{drop, ◌+◌, ◌*◌}
use Rattle.sg_wire.specs.OutList.{transport_ids_at}
use Rattle.sg_units.specs.ReserveOut.{first_unknown}
use Rattle.sg_units.proofs.reservation_state.register_together.first_unknown.Given as goal

-- those so far name an initiator
abbrev pub invariant-loop-index : goal.invariant-loop-index
invariant-loop-index l =
    first_unknown transport_ids_at l.others
    ≡ first_unknown (transport_ids_at + 24 * l.index) (drop l.index l.others)
