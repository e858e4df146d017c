use Rattle.std.proofs.Common.{arith}
use Rattle.sg_pool.specs.SlotSets.{bit_of}
use Rattle.sg_pool.proofs.SlotSetLemmas.{length-zeros}
use Rattle.sg_pool.proofs.unlinked_pool.UnlinkedPool.give.Goals as goal

pub overflow_add-self : goal.overflow_add-self
overflow_add-self c =
    let set = c.remove.new.self in
    record {
      fits = omega (
        arith,
        c.remove.ensures.absent.count,
        c.self.invariant.2,
        length-zeros (bit_of set.slots.words.items) 0 set.count,
      );
    }
