use Rattle.std.proofs.Common.{sym, ◌∙◌}
use Rattle.sg_target.proofs.ExtentLemmas.{past-more, on_disk-next}
use Rattle.sg_target.proofs.extent.first_past_capacity.Goals as goal

pub loop-extent-preserved : goal.loop-extent-preserved
loop-extent-preserved c =
    let here = c.loop-extent-test.true in
    let inv = c.loop-extent.invariant in
    let passed = sym c.past_capacity.ensures.value ∙ c.in_default.is in
    record {
      rest = past-more c.args.capacity c.args.extents.now c.loop-extent.extent-index _ here passed ∙ inv.rest;
      on_disk = on_disk-next c.args.capacity c.args.extents.now c.loop-extent.extent-index _ here
          inv.on_disk c.in_default.ensures.on_disk;
    }
