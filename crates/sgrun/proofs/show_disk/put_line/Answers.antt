use Rattle.std.proofs.Common.{rules}
use Rattle.sgrun.proofs.ShownDiskLemmas.{prints}
use Rattle.sgrun.proofs.show_disk.put_line.Goals as goal

pub returns : goal.returns
returns g c = search (rules, prints)
