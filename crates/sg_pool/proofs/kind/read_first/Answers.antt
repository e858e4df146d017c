use Rattle.sg_store.proofs.DiskLemmas.{zeros}
use Rattle.sg_pool.proofs.kind.read_first.Goals as goal

-- whatever the slot holds, zeros are read
pub returns-in-Anchored : goal.returns-in-Anchored
returns-in-Anchored c =
    rw c.in-Anchored.is (zeros _ _ c.requires.byte_count (c.fill.ensures.after (λ y e. e)))
