use Rattle.sgrun.specs.ShownDisk.{registration_line}
use Rattle.sgrun.proofs.ShownDiskLemmas.{Prints-item}
use Rattle.sgrun.proofs.show_disk.put_registrations.Goals as goal

pub loop-registration-preserved : goal.loop-registration-preserved
loop-registration-preserved g c =
    Prints-item _ _ _ registration_line c.args.registrations.now c.loop-registration.registration-index
    c.registration-item.result c.registration-item.is c.loop-registration-test.true
    c.loop-registration.invariant c.put_registration.ensures
