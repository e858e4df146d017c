use Rattle.std.proofs.Common.{◌≡◌, ◌≤◌, ◌+◌, ◌*◌, ◌-◌, length}
use Rattle.std.specs.FinMap.{len}
use Rattle.sg_changes.specs.Snapshot.{disk_below, kept_below}
use Rattle.sg_target.specs.Target.{disk_of}
use Rattle.sg_kept.specs.Compaction.{LeadsOn}
use Rattle.sg_kept.specs.Kept.{kept}
use Rattle.sg_kept.proofs.compaction.fill_batch.Given as goal

abbrev pub invariant-loop-next : goal.invariant-loop-next
invariant-loop-next g l = record {
  after : l.fn.lba ≤ l.next;
  within : l.next ≤ l.capacity;
  first : l.next ≡ l.fn.lba → l.batch ≡ l.fn.batch;
  records : LeadsOn l.fn.batch l.batch (kept_below (kept (disk_of l.fn.target)) l.fn.lba)
      (kept_below (kept (disk_of l.fn.target)) l.next);
  most : length l.batch.records + 525 * len (disk_below l.fn.target.state.disk l.fn.lba).contents
      ≤ length l.fn.batch.records + 525 * len (disk_below l.fn.target.state.disk l.next).contents;
  state : l.target.state ≡ l.fn.target.state;
  faults : l.target.faults ≡ l.fn.target.faults;
  scratch : length l.scratch ≡ length l.fn.scratch;
}

abbrev pub decreases-loop-next : goal.decreases-loop-next
decreases-loop-next g l = l.capacity - l.next
