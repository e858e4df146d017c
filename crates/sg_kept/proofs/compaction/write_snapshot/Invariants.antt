use Rattle.std.proofs.Common.{◌≡◌, ◌≤◌, ◌-◌, length}
use Rattle.sg_journal.specs.Device.{LeavesOnly}
use Rattle.sg_journal.specs.Journal.{found}
use Rattle.sg_target.specs.Target.{disk_of}
use Rattle.sg_kept.specs.Compaction.{IsDraftOf}
use Rattle.sg_kept.specs.Opened.{IsBeforeOr}
use Rattle.sg_kept.proofs.compaction.write_snapshot.Given as goal

abbrev pub invariant-loop-next : goal.invariant-loop-next
invariant-loop-next g l = record {
  drafts : IsDraftOf g.D.Device.seen g.D.Device.may_leave g.D.Device.draft l.journal l.batch
      (disk_of l.fn.target) l.from;
  same : found (g.D.Device.seen l.journal.device) ≡ found (g.D.Device.seen l.fn.journal.device);
  moments : LeavesOnly g.D.Device.moment g.D.Device.left_since l.fn.journal.device l.journal.device
      (IsBeforeOr (g.D.Device.seen l.fn.journal.device) (disk_of l.fn.target));
  failures : g.D.Device.failures l.fn.journal.device ≤ g.D.Device.failures l.journal.device;
  state : l.target.state ≡ l.fn.target.state;
  faults : l.target.faults ≡ l.fn.target.faults;
  scratch : length l.scratch ≡ length l.fn.scratch;
}

abbrev pub decreases-loop-next : goal.decreases-loop-next
decreases-loop-next g l = l.fn.target.state.disk.capacity - l.from
