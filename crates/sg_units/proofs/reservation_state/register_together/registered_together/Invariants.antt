use Rattle.std.proofs.Common.{◌≡◌, ◌≤◌, length, take, ◌∷◌}
use Rattle.std.specs.Prelude.{Some}
use Rattle.std.specs.List.{fold}
use Rattle.sg_units.specs.Registrations.{max_registrations}
use Rattle.sg_units.specs.ReserveOut.{registered_too}
use Rattle.sg_units.proofs.reservation_state.register_together.registered_together.Given as goal

-- the caller and those so far are registered
abbrev pub invariant-loop-index : goal.invariant-loop-index
invariant-loop-index l = record {
  so_far : l.registrations
      ≡ fold (registered_too l.list) l.before (Some l.fn.caller ∷ take l.index l.list.others);
  within : length l.registrations ≤ max_registrations;
}
