use Rattle.sg_queue.proofs.MomentLemmas.{are_writes}
use Rattle.sg_queue.proofs.WaitingLemmas.{waits}
use Rattle.sg_queue.proofs.queue.Queue.has_calls.Goals as goal

pub returns : goal.returns
returns c =
    rw (c.is_some.ensures, ← c.self.view_is) (record {
      any = waits c.oldest.result c.self.inside.calls.items _ c.oldest.ensures;
      writes = are_writes c.self.inside.calls.items _;
    })
