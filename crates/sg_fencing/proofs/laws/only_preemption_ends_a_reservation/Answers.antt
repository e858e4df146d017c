use Rattle.sg_fencing.proofs.HolderLemmas.{alone}
use Rattle.sg_fencing.proofs.StandingLemmas.{stands-held}
use Rattle.sg_fencing.proofs.laws.only_preemption_ends_a_reservation.Goals as goal

pub returns : goal.returns
returns c state holder other cdb data_out w differ held mild =
    stands-held state holder other differ (alone state holder w held) held cdb data_out mild
