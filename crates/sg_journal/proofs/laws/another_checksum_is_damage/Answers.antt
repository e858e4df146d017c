use Rattle.sg_journal.proofs.Whole.{damage_found}
use Rattle.sg_journal.proofs.laws.another_checksum_is_damage.Goals as goal

pub returns : goal.returns
returns c = damage_found
