use Rattle.std.proofs.Common.{rules}
use Rattle.sg_units.proofs.TogetherLemmas.{all_registered, no_room_at, no_room_for_caller}
use Rattle.sg_units.proofs.reservation_state.register_together.registered_together.Goals as goal

pub returns-then-not-register_too : goal.returns-then-not-register_too
returns-then-not-register_too c =
    no_room_for_caller c.args.before.now c.args.caller c.args.list.now (search rules)

pub returns-then-not-register_too-2 : goal.returns-then-not-register_too-2
returns-then-not-register_too-2 c =
    no_room_at c.args.before.now c.args.caller c.args.list.now c.loop-index.registrations
    c.loop-index.index (search rules) c.loop-index.invariant.so_far (search rules)

pub returns : goal.returns
returns c =
    all_registered c.args.before.now c.args.caller c.args.list.now c.loop-index.registrations
    c.loop-index.index (search rules) c.loop-index.invariant.so_far c.loop-index.invariant.within
