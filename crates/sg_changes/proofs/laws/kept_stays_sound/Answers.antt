use Rattle.sg_changes.proofs.SoundLemmas.{sound-new, sound-replayed}
use Rattle.sg_changes.proofs.laws.kept_stays_sound.Goals as goal

pub returns : goal.returns
returns c = record { new = sound-new; after_records = sound-replayed }
