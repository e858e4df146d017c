use Rattle.std.proofs.Common.{◌≡◌, arith}
use Rattle.std.proofs.lemmas.List.FromFn.{fill_by_all}
use Rattle.sg_wire.specs.Initiator.{initiator_count}
use Rattle.sg_faults.specs.Arming.{first_count, first_counts, spent}
use Rattle.sg_faults.proofs.fault.ArmedFault.new.Goals as goal

pub returns : goal.returns
unfolding first_counts
returns c =
    let so_far = c.loop-number.invariant.counted_so_far in
    let whole : c.loop-number.counts ≡ first_counts c.args.fault =
    fill_by_all (first_count c.args.fault) c.loop-number.counts initiator_count spent
    c.loop-number.invariant.size (λ k h. so_far k (omega arith)) in
    λ d. record { fault = c.args.fault; counts = whole d }
