use Rattle.std.proofs.Common.{◌≡◌, ◌<◌, ℕ, None, get_or, length}
use Rattle.sg_wire.specs.Initiator.{initiator_count}
use Rattle.sg_units.specs.ReserveOut.{raised_for}
use Rattle.sg_units.proofs.raised.Raised.by.Given as goal

-- the conditions so far
abbrev pub invariant-loop-number : goal.invariant-loop-number
invariant-loop-number l = record {
  size : length l.conditions ≡ initiator_count;
  raised_so_far : (k : ℕ) → k < l.number
      → get_or l.conditions k None ≡ raised_for l.before l.caller l.change k;
}
