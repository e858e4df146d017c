use Rattle.std.proofs.Common.{rules}
use Rattle.sg_embed.proofs.slot.Slot.fail.Goals as goal

pub returns-clause-failed : goal.returns-clause-failed
returns-clause-failed c _ = record {
  reply = c.in-Some-fail.failure;
  failed = record {
    disk = c.in-Some.kept.now;
    left = record { target = c.fail.new.self };
    was = search rules;
    is = search rules;
    happened = search rules;
  };
  shows = search rules;
}
