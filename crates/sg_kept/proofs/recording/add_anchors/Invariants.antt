use Rattle.std.proofs.Common.{◌≤◌, ◌+◌, ◌*◌, length, map, take}
use Rattle.sg_changes.specs.Change.Change.{Anchor}
use Rattle.sg_kept.specs.Recording.{Adds}
use Rattle.sg_kept.proofs.recording.add_anchors.Given as goal

abbrev pub invariant-loop-extent : goal.invariant-loop-extent
invariant-loop-extent l = record {
  adds : Adds l.fn.batch l.batch (map Anchor (take l.extent-index l.extents));
  size : length l.batch.records ≤ length l.fn.batch.records + 13 * l.extent-index;
}
