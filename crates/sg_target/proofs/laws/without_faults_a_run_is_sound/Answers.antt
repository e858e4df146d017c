use Rattle.std.proofs.Common.{refl}
use Rattle.sg_target.specs.State.{profile_of}
use Rattle.sg_target.proofs.FaultLawLemmas.{runs-sound}
use Rattle.sg_target.proofs.laws.without_faults_a_run_is_sound.Goals as goal

pub returns : goal.returns
returns c = λ disk events e h.
    runs-sound c.unarmed_faults_do_nothing.ensures c.the_configuration_stays.ensures
    (profile_of disk.state) disk events refl e h
