use Rattle.sg_fencing.proofs.StoppingLemmas.{never-stopped}
use Rattle.sg_fencing.proofs.stopping.a_base_disk_is_never_stopped.Goals as goal

pub returns : goal.returns
returns c = never-stopped c.profiles_are_closed.ensures c.the_configuration_stays.ensures
