use Rattle.std.proofs.Common.{ap, ◌∙◌, take}
use Rattle.sg_wire.specs.declared.command.Class.TheVariants.{Writes}
use Rattle.sg_target.specs.Runs.{all_calls, state_after_all, step_of}
use Rattle.sg_fencing.specs.Registrants.{is_registrant, is_reserved}
use Rattle.sg_fencing.proofs.OutsiderRunLemmas.{not-served, writes-refused}
use Rattle.sg_fencing.proofs.PowerLemmas.{unknown-still}
use Rattle.sg_fencing.proofs.PreemptLemmas.{preempt-unregisters}
use Rattle.sg_fencing.proofs.laws.the_preempted_write_nothing.Goals as goal

pub returns : goal.returns
returns c state preempt initiator calls w its n call answer e f from writes refused =
    let after = (step_of state preempt).state in
    let unknown = unknown-still after initiator (all_calls (take n calls))
    (preempt-unregisters c.one_key_each.ensures state initiator preempt.initiator its.key
    preempt.cdb.now preempt.data_out.now w its.another its.sent its.registered its.good)
    refused in
    not-served is_reserved Writes (writes-refused c.others_are_refused.ensures) after calls n call answer
    e f writes (ap (is_registrant (state_after_all after (take n calls))) from ∙ unknown)
