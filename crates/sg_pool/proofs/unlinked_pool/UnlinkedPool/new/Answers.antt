use Rattle.std.proofs.Common.{ℕ, List, length, ap, ◌∙◌, arith}
use Rattle.std.proofs.lemmas.List.{length-replicate}
use Rattle.std.proofs.lemmas.List.FromFn.{length-range_with_len}
use Rattle.sg_store.specs.Disk.{zero_block}
use Rattle.sg_pool.proofs.unlinked_pool.UnlinkedPool.new.Goals as goal

pub invariant_of-result : goal.invariant_of-result
invariant_of-result c =
    let set = c.in_ok-new-2.ensures in (
      set.set,
      omega (
        arith,
        set.count,
        ap length c.in_ok-new.ensures,
        length-replicate {A = List ℕ} c.args.count zero_block,
      ),
      ap length set.absent ∙ length-range_with_len 0 c.args.count,
    )
