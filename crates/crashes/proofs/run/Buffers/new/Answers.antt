use Rattle.std.proofs.Common.{refl}
use lib.Count.{ones}
use Rattle.sg_journal.specs.Layout.{is_sector_length}
use Rattle.crashes.proofs.run.Buffers.new.Goals as goal

pub new-requires : goal.new-requires
unfolding is_sector_length ones
new-requires c = record { valid = refl }
