use Rattle.std.proofs.Common.{subst}
use Rattle.sg_journal.specs.Reads.{IsWithin}
use Rattle.sg_journal.proofs.Buffers.{still_buffer}
use Rattle.sg_journal.proofs.reader.Reader.next.Goals as goal

pub body_size-requires-clause-count : goal.body_size-requires-clause-count
body_size-requires-clause-count g c = subst IsWithin c.in-Batch.is c.in_ok-len.ensures.within

pub invariant_of-batch-in-Batch : goal.invariant_of-batch-in-Batch
invariant_of-batch-in-Batch g c =
    still_buffer c.batch.inside c.deref_mut.result.now c.read_batch.new.gate
    c.deref_mut-2.result.now
    c.read_batch.new.body c.in-Batch.len c.batch.invariant c.deref_mut.ensures.value
    c.read_batch.auto.gate c.deref_mut-2.ensures.value c.read_batch.auto.body
    (subst IsWithin c.in-Batch.is c.in_ok-len.ensures.within)
