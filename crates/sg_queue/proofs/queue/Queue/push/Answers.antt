use Rattle.std.proofs.Common.{arith, length-append, drop}
use Rattle.std.proofs.lemmas.List.{drop-append-le}
use Rattle.sg_queue.proofs.WaitingLemmas.{Added, added}
use Rattle.sg_queue.proofs.queue.Queue.push.Goals as goal

-- The new call has the new bytes.
grown : (c : goal.In_default)
    → Added c.self.inside.calls.items (drop c.self.inside.start c.self.inside.bytes.items) c.args.call
    c.args.bytes.now
grown c = added _ _ _ _ c.self.invariant.1 c.requires.length c.requires.needed

pub invariant_of-self-in_default : goal.invariant_of-self-in_default
invariant_of-self-in_default c =
    rw (
      c.in_ok-push_back.ensures.items,
      c.in_default.ensures.items,
      drop-append-le c.self.inside.start c.self.inside.bytes.items c.args.bytes.now c.self.invariant.0,
    ) (
      omega (arith, c.self.invariant.0, length-append c.self.inside.bytes.items c.args.bytes.now),
      (grown c).whole,
    )

pub returns-clause-added : goal.returns-clause-added
returns-clause-added c =
    rw (
      c.in_ok-push_back.ensures.items,
      c.in_default.ensures.items,
      drop-append-le c.self.inside.start c.self.inside.bytes.items c.args.bytes.now c.self.invariant.0,
      ← c.self.view_is,
    )
    (grown c).waiting
