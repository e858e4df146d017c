use Rattle.std.proofs.Common.{◌≡◌, ◌<◌, ℕ, false, get_or, length}
use Rattle.sg_wire.specs.Initiator.{initiator_count}
use Rattle.sg_units.specs.Initiators.{is_in_mask}
use Rattle.sg_units.proofs.initiators.Initiators.of_mask.Given as goal

-- the members so far
abbrev pub invariant-loop-number : goal.invariant-loop-number
invariant-loop-number l = record {
  size : length l.members ≡ initiator_count;
  named_so_far : (k : ℕ) → k < l.number → get_or l.members k false ≡ is_in_mask l.mask k;
}
