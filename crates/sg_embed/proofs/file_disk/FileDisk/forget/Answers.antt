use Rattle.std.proofs.Common.{subst, sym}
use Rattle.sg_embed.specs.FileDisk.{FlushesFile}
use Rattle.sg_embed.proofs.FileDiskLemmas.{forgets-port, forgotten-ready}
use Rattle.sg_embed.proofs.file_disk.FileDisk.forget.Goals as goal

pub invariant_of-self : goal.invariant_of-self
invariant_of-self c =
    forgotten-ready c.args.initiator c.self.inside.disk c.self.inside.next c.forget.new.self c.forget.ensures
    c.self.invariant

pub returns-then-not-self : goal.returns-then-not-self
returns-then-not-self c =
    let mid = c.self.inside in
    forgets-port c.args.initiator c.args.self.now mid.disk mid.device mid.next c.forget.new.self
    c.if-not-self.true
    (subst (FlushesFile c.args.self.now) (sym c.self.view_is) c.flush.ensures) c.forget.ensures
