use Rattle.std.proofs.Common.{false, arith}
use Rattle.std.proofs.lemmas.List.FromFn.{fill_by_all}
use Rattle.sg_wire.specs.Initiator.{initiator_count}
use Rattle.sg_units.specs.Initiators.{is_in_mask, members_of_mask}
use Rattle.sg_units.proofs.initiators.Initiators.of_mask.Goals as goal

pub returns : goal.returns
unfolding members_of_mask
returns c =
    fill_by_all (is_in_mask c.args.mask) c.loop-number.members initiator_count false
    c.loop-number.invariant.size (λ k h. c.loop-number.invariant.named_so_far k (omega arith))
