use Rattle.std.proofs.Common.{rules}
use Rattle.sg_embed.proofs.slot.Slot.flush.Goals as goal

pub returns-clause-flushed : goal.returns-clause-flushed
returns-clause-flushed c _ = record {
  disk = c.in-Some.kept.now;
  left = record { target = c.flush.new.self };
  was = search rules;
  is = search rules;
  happened = search rules;
}
