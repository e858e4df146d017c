use Rattle.std.proofs.Common.{◌≡◌, Some, sym}
use Rattle.sg_wire.proofs.PrintingLemmas.{Prints-on}
use Rattle.sg_wire.specs.Sense.{fields_of}
use Rattle.sg_decode.specs.SenseText.{read_deferred}
use Rattle.sg_decode.proofs.sense.put_extended_sense.Goals as goal

pub returns-in-Some : goal.returns-in-Some
returns-in-Some g c =
    let read : read_deferred c.args.bytes.now ≡ Some (fields_of c.in-Some.sense) =
    sym (rw c.in-Some.is at c.read_deferred.ensures) in
    rw read (Prints-on c.put.ensures c.put_sense_fields.ensures)
