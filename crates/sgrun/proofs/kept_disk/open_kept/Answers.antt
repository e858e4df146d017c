use Rattle.std.proofs.Common.{◌≡◌, Some}
use Rattle.sg_kept.specs.Opened.{batch_count, opened}
use Rattle.sg_target.specs.Target.{disk_of}
use Rattle.sgrun.specs.Stops.{stop_of_disk}
use Rattle.sgrun.proofs.KeptDiskLemmas.{found, no_disk}
use Rattle.sgrun.proofs.kept_disk.open_kept.Goals as goal

pub returns-clause-started : goal.returns-clause-started
returns-clause-started g c =
    let said = c.found_disk.ensures in
    found _ (λ e. stop_of_disk c.args.file e.0) c.open.result c.found_disk.result
    c.open.ensures.started said.found said.no_disk

pub returns-clause-opened : goal.returns-clause-opened
returns-clause-opened g c =
    let said = c.found_disk.ensures in
    found (λ disk. opened (g.F.Device.Device.opening disk.journal.device) ≡ Some (disk_of disk.target))
    (λ e. stop_of_disk c.args.file e.0) c.open.result c.found_disk.result c.open.ensures.opened
    said.found said.no_disk

pub returns-clause-batches : goal.returns-clause-batches
returns-clause-batches g c =
    let said = c.found_disk.ensures in
    found
    (λ disk. batch_count (g.F.Device.Device.opening disk.journal.device) ≡ Some disk.found_batches)
    (λ e. stop_of_disk c.args.file e.0) c.open.result c.found_disk.result c.open.ensures.batches
    said.found said.no_disk

pub returns-clause-refused : goal.returns-clause-refused
returns-clause-refused g c =
    let said = c.found_disk.ensures in
    no_disk g.F.Source.taken g.F.Source.left g.F.Source.failures c.args.source c.args.file c.open.result
    c.found_disk.result c.open.ensures.says c.open.ensures.cause said.found said.no_disk
