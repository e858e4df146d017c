use Rattle.sg_fencing.proofs.RegisteringLemmas.{registers-it}
use Rattle.sg_fencing.proofs.laws.only_registering_registers.Goals as goal

pub returns : goal.returns
returns c state initiator caller cdb data_out unknown known =
    registers-it state initiator caller unknown cdb data_out known
