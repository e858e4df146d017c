use Rattle.sg_faults.specs.Laws.{is_spared}
use Rattle.sg_target.proofs.FaultLawLemmas.{untouched-step}
use Rattle.sg_target.proofs.laws.others_meet_no_fault.Goals as goal

pub returns : goal.returns
returns c = λ disk i cdb data_out e.
    untouched-step (λ command faults. is_spared faults command.initiator)
    c.spared_initiators_meet_no_fault.ensures i cdb disk data_out e
