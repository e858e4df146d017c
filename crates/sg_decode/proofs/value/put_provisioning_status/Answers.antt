use Rattle.std.proofs.Common.{◌≡◌, None, sym}
use Rattle.sg_wire.proofs.PrintingLemmas.{Prints-on}
use Rattle.sg_decode.specs.Values.{provisioning_name}
use Rattle.sg_decode.proofs.value.put_provisioning_status.Goals as goal

pub returns-in-None : goal.returns-in-None
returns-in-None g c =
    let unnamed : provisioning_name c.args.status ≡ None = sym c.in-None.ensures in
    rw unnamed (Prints-on c.put-in-None.ensures (rw c.from.ensures at c.put_number.ensures))
