use Rattle.std.proofs.Common.{rules}
use Rattle.sgrun.specs.ShownDisk.{registration_line}
use Rattle.sgrun.proofs.ShownDiskLemmas.{prints}
use Rattle.sgrun.proofs.show_disk.put_registration.Goals as goal

pub returns : goal.returns
unfolding registration_line
returns g c = search (rules, prints)
