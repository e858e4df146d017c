use Rattle.sg_kept.proofs.OpenedLemmas.{untouched}
use Rattle.sg_target.specs.Target.{disk_of}
use Rattle.std.proofs.Common.{refl}
use Rattle.sg_kept.proofs.MomentsLemmas.{on-ok}
use Rattle.sg_kept.proofs.disk.KeptDisk.write_out.Goals as goal

pub returns-clause-flushed : goal.returns-clause-flushed
returns-clause-flushed g c =
    on-ok c.write_waiting.result (λ flushed. flushed refl) c.write_waiting.ensures.flushed

pub returns-then-self-gt-LONGEST_FILE-clause-any_moment
    : goal.returns-then-self-gt-LONGEST_FILE-clause-any_moment
returns-then-self-gt-LONGEST_FILE-clause-any_moment g c =
    let journal = c.args.self.now.journal in
    let s = c.requires.usable.kept in
    untouched g.D.Device.seen g.D.Device.may_leave g.D.Device.moment g.D.Device.left_since journal
    s.batches s.waiting (disk_of c.args.self.now.target) s.stands (g.met.D.Device.only_now journal.device)
