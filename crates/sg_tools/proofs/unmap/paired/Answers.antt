use Rattle.std.proofs.Common.{◌+◌, ◌++◌, ◌∷◌, [], List, get_or, ap, sym, ◌∙◌, arith}
use Rattle.sg_wire.specs.declared.extent.Extent.{Extent}
use Rattle.sg_tools.proofs.UnmapLemmas.{paired_more, pushed}
use Rattle.sg_tools.proofs.unmap.paired.Goals as goal

pub loop-k-preserved : goal.loop-k-preserved
loop-k-preserved c =
    let i = c.loop-k.invariant in
    let more = pushed _ _ _ c.push.ensures in
    record {
      extents = c.push.ensures ∙ ap (λ (t : List Extent). t
          ++ (record {
            lba = get_or c.args.lbas.now c.loop-k.k 0;
            count = get_or c.args.counts.now
                c.loop-k.k 0;
          } ∷ [])) i.extents
          ∙ sym (paired_more c.args.lbas.now c.args.counts.now c.loop-k.k (omega arith)
          (omega arith));
      count = more ∙ ap (λ n. n + 1) i.count;
    }
