use Rattle.std.proofs.Common.{subst}
use Rattle.sg_embed.specs.FileDisk.{FileDiskFields, HappensInFile}
use Rattle.sg_embed.proofs.FileDiskLemmas.{happens, if-alive, if-dead, in-file}
use Rattle.sg_embed.proofs.file_disk.FileDisk.happen.Goals as goal

pub returns : goal.returns
returns c =
    let was = c.self.inside in
    let mid = c.happen.new.self in
    let new = c.keep_short.new in
    let said = c.happen.ensures in
    subst
    (λ (old : FileDiskFields). HappensInFile c.args.happening old (in-file new.disk was.device new.next))
    c.self.view_is
    (happens c.args.happening was.disk c.give_up.new.disk mid new.disk was.next new.next was.device
    c.self.invariant c.give_up.ensures.stopped
    (record {
      cause = λ alive dead. said.cause alive (if-dead _ c.happen.result mid.is_dead said.usable dead);
      stays_dead = said.stays_dead;
      any_moment = said.any_moment;
      later = said.later;
      is = λ alive. if-alive c.happen.result mid.is_dead said.failed said.happened alive;
    })
    said.events (λ alive. if-alive c.happen.result mid.is_dead said.failed said.written alive)
    c.keep_short.ensures.settles)
