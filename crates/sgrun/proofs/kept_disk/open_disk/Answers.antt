use Rattle.std.proofs.Common.{◌≡◌, Err, inr, rules}
use Rattle.sg_target.specs.Target.{disk_of}
use Rattle.sgrun.specs.DiskInFile.{HasOtherDisk}
use Rattle.sgrun.proofs.kept_disk.open_disk.Goals as goal

pub returns-in_err-check-clause-not_opened : goal.returns-in_err-check-clause-not_opened
returns-in_err-check-clause-not_opened g c some =
    let stop = c.in_err-check.field-0.0 in
    let other : HasOtherDisk c.args.options.now stop = record {
      bytes = g.F.Device.Device.opening c.in_ok-disk.disk.journal.device;
      disk = disk_of c.in_ok-disk.disk.target;
      found = c.in_ok-disk.ensures.opened;
      differs = search rules;
    } in
    let is : c.from_residual-in_err-check.result ≡ Err stop = search rules in
    rw is (inr other)
