use Rattle.std.proofs.Common.{◌≡◌, ◌∙◌}
use Rattle.sg_target.specs.Target.{disk_of}
use Rattle.sg_kept.specs.Kept.{kept}
use Rattle.sg_kept.specs.Opened.{opened}
use Rattle.sg_kept.proofs.CompactionLemmas.{draft-begun, stands-alone, stands-still, steady-kept}
use Rattle.sg_kept.proofs.MomentsLemmas.{weaker}
use Rattle.sg_kept.proofs.OpenedLemmas.{opened-same}
use Rattle.sg_kept.proofs.disk.KeptDisk.begin_compaction.Goals as goal

pub begin_snapshot-requires-clause-new : goal.begin_snapshot-requires-clause-new
begin_snapshot-requires-clause-new g c =
    let old = c.args.self.now in
    (steady-kept g.D.Device.seen g.D.Device.may_leave c.kept_stays_sound.ensures old.journal old.batch
    (disk_of old.target) c.requires.usable.1.kept).new

pub begin_snapshot-requires-clause-sound : goal.begin_snapshot-requires-clause-sound
begin_snapshot-requires-clause-sound g c =
    let old = c.args.self.now in
    (steady-kept g.D.Device.seen g.D.Device.may_leave c.kept_stays_sound.ensures old.journal old.batch
    (disk_of old.target) c.requires.usable.1.kept).sound.disk

pub returns-in-Ok-clause-begun : goal.returns-in-Ok-clause-begun
returns-in-Ok-clause-begun g c =
    let old = c.args.self.now in
    let new = c.begin_snapshot.new.journal in
    let done = c.in-Ok.ensures in
    let disk = disk_of old.target in
    record {
      alive = c.requires.usable.0;
      stands = stands-still g.D.Device.seen g.D.Device.may_leave old.journal new (kept disk)
          (stands-alone g.D.Device.seen g.D.Device.may_leave old.journal old.batch disk
          c.requires.usable.1.kept c.requires.written.0 c.requires.written.1) done.drafted.batches
          done.drafted.drafts.waiting done.drafted.drafts.stands (done.waiting ∙ c.requires.written.1)
          done.same;
      idle = done.waiting ∙ c.requires.written.1;
      drafts = draft-begun g.D.Device.seen g.D.Device.may_leave g.D.Device.draft new
          c.begin_snapshot.new.head disk done.drafted done.at_most;
      limits = c.requires.usable.1.kept.limits;
      scratch = c.requires.usable.1.scratch;
    }

pub returns-in-Ok-clause-in_file : goal.returns-in-Ok-clause-in_file
returns-in-Ok-clause-in_file g c =
    opened-same (g.D.Device.seen c.begin_snapshot.new.journal.device)
    (g.D.Device.seen c.args.self.now.journal.device) c.in-Ok.ensures.same

pub returns-in-Ok-clause-any_moment : goal.returns-in-Ok-clause-any_moment
returns-in-Ok-clause-any_moment g c =
    let old = c.args.self.now.journal.device in
    weaker g.D.Device.moment g.D.Device.left_since old c.begin_snapshot.new.journal.device _
    (λ file. opened file ≡ opened (g.D.Device.seen old)) c.begin_snapshot.ensures.any_moment
    (λ file was. opened-same file (g.D.Device.seen old) was)

pub returns-in-Err-clause-any_moment : goal.returns-in-Err-clause-any_moment
returns-in-Err-clause-any_moment g c =
    let old = c.args.self.now.journal.device in
    weaker g.D.Device.moment g.D.Device.left_since old c.begin_snapshot.new.journal.device _
    (λ file. opened file ≡ opened (g.D.Device.seen old)) c.begin_snapshot.ensures.any_moment
    (λ file was. opened-same file (g.D.Device.seen old) was)
