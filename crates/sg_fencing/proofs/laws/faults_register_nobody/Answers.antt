use Rattle.sg_fencing.proofs.FaultLemmas.{registers-it-with-faults}
use Rattle.sg_fencing.proofs.laws.faults_register_nobody.Goals as goal

pub returns : goal.returns
returns c disk initiator caller cdb data_out unknown known =
    registers-it-with-faults c.faults_only_drop_or_shorten.ensures disk initiator caller unknown cdb
    data_out known
