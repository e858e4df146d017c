use Rattle.sg_fencing.proofs.NewcomerLemmas.{newcomer-seen}
use Rattle.sg_fencing.proofs.laws.a_new_registration_is_seen.Goals as goal

pub returns : goal.returns
returns c state initiator cdb data_out list w unknown sent known =
    newcomer-seen state initiator unknown list w cdb data_out sent known
