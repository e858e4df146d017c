use Rattle.std.proofs.Common.{[]}
use Rattle.sg_changes.specs.FirstRecord.{new_disk_kept}
use Rattle.sg_kept.specs.Kept.{restored}
use Rattle.sg_kept.proofs.OpenedLemmas.{untouched}
use Rattle.sg_kept.proofs.disk.KeptDisk.make.Goals as goal

pub returns-in-Err-clause-any_moment_of_error : goal.returns-in-Err-clause-any_moment_of_error
returns-in-Err-clause-any_moment_of_error g c =
    let journal = c.args.journal in
    untouched g.D.Device.seen g.D.Device.may_leave g.D.Device.moment g.D.Device.left_since journal [] []
    (restored (new_disk_kept c.args.disk.now)) c.requires.batches
    (g.met.D.Device.only_now journal.device)
