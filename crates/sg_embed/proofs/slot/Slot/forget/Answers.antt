use Rattle.std.proofs.Common.{rules}
use Rattle.sg_embed.proofs.slot.Slot.forget.Goals as goal

pub returns-clause-forgotten : goal.returns-clause-forgotten
returns-clause-forgotten c _ = record {
  disk = c.in-Some.kept.now;
  left = record { target = c.forget.new.self };
  was = search rules;
  is = search rules;
  happened = search rules;
}
