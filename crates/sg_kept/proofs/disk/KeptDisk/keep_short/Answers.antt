use Rattle.std.proofs.Common.{inr}
use Rattle.sg_target.specs.Target.{disk_of}
use Rattle.sg_kept.proofs.MomentsLemmas.{on-ok}
use Rattle.sg_kept.proofs.OpenedLemmas.{untouched}
use Rattle.sg_kept.proofs.disk.KeptDisk.keep_short.Goals as goal

pub returns-then-not-is_long-clause-any_moment : goal.returns-then-not-is_long-clause-any_moment
returns-then-not-is_long-clause-any_moment g c =
    let journal = c.args.self.now.journal in
    let s = c.requires.usable.kept in
    untouched g.D.Device.seen g.D.Device.may_leave g.D.Device.moment g.D.Device.left_since journal
    s.batches s.waiting (disk_of c.args.self.now.target) s.stands (g.met.D.Device.only_now journal.device)

pub returns-then-not-self-clause-left : goal.returns-then-not-self-clause-left
returns-then-not-self-clause-left g c =
    on-ok c.commit_waiting.result
    (λ flushed. inr (flushed (disk_of c.args.self.now.target) c.requires.usable.kept))
    c.commit_waiting.ensures.flushed

pub returns-then-not-self-clause-any_moment : goal.returns-then-not-self-clause-any_moment
returns-then-not-self-clause-any_moment g c =
    c.commit_waiting.ensures.any_moment (disk_of c.args.self.now.target) c.requires.usable.kept
