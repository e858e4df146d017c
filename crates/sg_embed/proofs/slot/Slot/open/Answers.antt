use Rattle.std.proofs.Common.{rules}
use Rattle.sg_embed.proofs.SlotFileLemmas.{opens}
use Rattle.sg_embed.proofs.slot.Slot.open.Goals as goal

pub returns-in-Ok : goal.returns-in-Ok
returns-in-Ok c =
    opens c.args.wanted.now c.args.file.now c.args.self.now.held c.put.new.self.held c.in-Ok.kept.value
    c.none.result c.done-outcome.result (search rules) c.put.ensures c.in-Ok.ensures.opened (search rules)
    c.none.ensures
