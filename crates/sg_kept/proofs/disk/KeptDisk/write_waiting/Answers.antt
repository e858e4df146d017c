use Rattle.std.proofs.Common.{⊎_elim, ◌∙◌}
use Rattle.sg_target.specs.Target.{disk_of}
use Rattle.sg_kept.specs.Opened.{IsBeforeOr}
use Rattle.sg_kept.proofs.CompactionLemmas.{then-leaves}
use Rattle.sg_kept.proofs.MomentsLemmas.{on-ok}
use Rattle.sg_kept.proofs.OpenedLemmas.{before-on}
use Rattle.sg_kept.proofs.disk.KeptDisk.write_waiting.Goals as goal

pub returns-in_err-write_batch_if-clause-any_moment : goal.returns-in_err-write_batch_if-clause-any_moment
returns-in_err-write_batch_if-clause-any_moment g c =
    c.write_batch_if.ensures.any_moment (disk_of c.args.self.now.target) c.requires.kept

pub returns-clause-any_moment : goal.returns-clause-any_moment
returns-clause-any_moment g c =
    let old = c.args.self.now in
    let disk = disk_of old.target in
    let before = g.D.Device.seen old.journal.device in
    let mid = c.write_batch_if.new.journal.device in
    then-leaves g.D.Device.moment g.D.Device.left_since old.journal.device mid
    c.keep_short.new.self.journal.device _ _ (IsBeforeOr before disk)
    (c.write_batch_if.ensures.any_moment disk c.requires.kept) c.keep_short.ensures.any_moment
    (λ file here. here)
    (before-on before (g.D.Device.seen mid) disk
    (c.in_ok-write_batch_if.ensures.left disk c.requires.kept))

pub returns-clause-left : goal.returns-clause-left
returns-clause-left g c =
    let old = c.args.self.now in
    let disk = disk_of old.target in
    let mid = c.write_batch_if.new.journal.device in
    on-ok c.keep_short.result
    (before-on (g.D.Device.seen old.journal.device) (g.D.Device.seen mid) disk
    (c.in_ok-write_batch_if.ensures.left disk c.requires.kept)
    (g.D.Device.seen c.keep_short.new.self.journal.device))
    c.keep_short.ensures.left

pub returns-clause-flushed : goal.returns-clause-flushed
returns-clause-flushed g c =
    let disk = disk_of c.args.self.now.target in
    on-ok c.keep_short.result
    (λ left needed. ⊎_elim
    (λ same. same ∙ c.in_ok-write_batch_if.ensures.flushed
    (c.has_to_write-is_needed.ensures.needed needed) disk c.requires.kept)
    (λ now. now) left)
    c.keep_short.ensures.left
