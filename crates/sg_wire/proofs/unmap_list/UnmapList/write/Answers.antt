use Rattle.std.proofs.Common.{◌≡◌, ◌≤◌, ◌∙◌, List, Ok, length, get_or, ap, subst, arith}
use Rattle.sg_wire.specs.Cut.{answer_of}
use Rattle.sg_wire.specs.CutAnswer.{put}
use Rattle.sg_wire.specs.UnmapList.{unmap_list}
use Rattle.sg_wire.specs.UnmapListBytes.{unmap_header, unmap_list_bytes}
use Rattle.sg_wire.specs.declared.extent.Extent.{Extent}
use Rattle.sg_wire.proofs.UnmapListLemmas.{all-fit, all-put, bytes-long, descriptor-put, fit-next}
use Rattle.sg_wire.proofs.UnmapListLemmas.{Fits, reads_back-unmap_list}
use Rattle.sg_wire.proofs.unmap_list.UnmapList.write.Goals as goal

pub loop-extent-preserved : goal.loop-extent-preserved
loop-extent-preserved c =
    let extents = c.as_slice-extents.result.now in
    let k = c.loop-extent.extent-index in
    let here = c.loop-extent-test.true in
    let none : Extent = record { lba = 0; count = 0 } in
    let fits : Fits (get_or extents k none) =
    record { lba = c.descriptor.ensures.lba; count = c.descriptor.ensures.count } in
    record {
      puts = descriptor-put _ _ _ (unmap_header (length extents)) c.descriptor.result extents k none
          c.loop-extent.invariant.puts c.put-in-loop-extent.ensures c.descriptor.ensures.bytes here;
      fit = fit-next extents k none here c.loop-extent.invariant.fit fits;
    }

pub returns-clause-bytes : goal.returns-clause-bytes
returns-clause-bytes c =
    all-put _ _ c.as_slice-extents.result.now c.loop-extent.extent-index c.loop-extent.invariant.puts
    (omega arith)
    ∙ ap (λ (list : List Extent). put (answer_of c.args.cut.now) (unmap_list_bytes list))
    c.as_slice-extents.ensures.extents

pub returns-clause-reads_back : goal.returns-clause-reads_back
returns-clause-reads_back c =
    let extents = c.as_slice-extents.result.now in
    subst (λ (list : List Extent). unmap_list (unmap_list_bytes list) ≡ Ok list)
    c.as_slice-extents.ensures.extents
    (reads_back-unmap_list extents c.as_slice-extents.ensures.at_most
    (all-fit extents c.loop-extent.extent-index (omega arith) c.loop-extent.invariant.fit))

pub returns-clause-length : goal.returns-clause-length
returns-clause-length c =
    let extents = c.as_slice-extents.result.now in
    subst (λ (list : List Extent). length (unmap_list_bytes list) ≤ 1032)
    c.as_slice-extents.ensures.extents
    (let long = bytes-long extents in omega (arith, long, c.as_slice-extents.ensures.at_most))
