use Rattle.std.proofs.Common.{rules}
use Rattle.sg_embed.proofs.slot.Slot.happen.Goals as goal

pub returns-clause-happened : goal.returns-clause-happened
returns-clause-happened c _ = record {
  disk = c.in-Some.kept.now;
  left = record { target = c.happen.new.self };
  was = search rules;
  is = search rules;
  happened = search rules;
}
