use Rattle.std.proofs.Common.{◌≤◌, ◌+◌, ◌*◌, length, map, take}
use Rattle.sg_kept.specs.Changes.{unmap}
use Rattle.sg_kept.specs.Recording.{Adds}
use Rattle.sg_kept.proofs.recording.add_unmaps.Given as goal

abbrev pub invariant-loop-extent : goal.invariant-loop-extent
invariant-loop-extent l = record {
  adds : Adds l.fn.batch l.batch (map unmap (take l.extent-index l.extents));
  size : length l.batch.records ≤ length l.fn.batch.records + 17 * l.extent-index;
}
