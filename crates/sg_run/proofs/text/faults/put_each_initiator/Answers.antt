use Rattle.sg_run.specs.FaultText.{to_text}
use Rattle.sg_run.proofs.FaultTextLemmas.{Prints-number}
use Rattle.sg_run.proofs.text.faults.put_each_initiator.Goals as goal

pub loop-number-preserved : goal.loop-number-preserved
loop-number-preserved g c =
    Prints-number _ _ _ (to_text c.args.initiators.now) c.loop-number.number c.loop-number.invariant
    c.put_to.ensures
