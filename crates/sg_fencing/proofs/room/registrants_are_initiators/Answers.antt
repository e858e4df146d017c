use Rattle.sg_wire.specs.CdbDecoding.{command_of}
use Rattle.sg_fencing.specs.Registrants.{rules_for}
use Rattle.sg_fencing.proofs.OutsiderLemmas.{stays-unknown}
use Rattle.sg_fencing.proofs.RoomLemmas.{not-asked}
use Rattle.sg_fencing.proofs.room.registrants_are_initiators.Goals as goal

pub returns : goal.returns
returns c state initiator cdb data_out known only n above =
    stays-unknown state n initiator (only n above) cdb data_out
    (not-asked (rules_for state) initiator n known above (command_of cdb) data_out)
