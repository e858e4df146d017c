use Rattle.std.proofs.Common.{rules}
use Rattle.sg_embed.proofs.SlotFileLemmas.{handed, none-waits, too-short}
use Rattle.sg_embed.proofs.slot.Slot.next_call.Goals as goal

pub returns-in-Ok-Some-clause-handed : goal.returns-in-Ok-Some-clause-handed
returns-in-Ok-Some-clause-handed c =
    handed c.args.self.now.held c.in-Some.kept.now.target c.next_call.new.self c.args.bytes.now
    c.next_call.new.bytes c.in-Ok-Some.call c.unwrap_or-device.result (search rules) (search rules)
    (search rules)

pub returns-in-Ok-None-clause-outcome : goal.returns-in-Ok-None-clause-outcome
returns-in-Ok-None-clause-outcome c =
    none-waits c.args.self.now.held c.in-Some.kept.now.target c.next_call.new.self c.args.bytes.now
    c.next_call.new.bytes (search rules) (search rules)

pub returns-in-Err-clause-outcome : goal.returns-in-Err-clause-outcome
returns-in-Err-clause-outcome c =
    too-short c.args.self.now.held c.in-Some.kept.now.target c.next_call.new.self c.args.bytes.now
    c.next_call.new.bytes c.in-Err.field-0 (search rules) (search rules)
