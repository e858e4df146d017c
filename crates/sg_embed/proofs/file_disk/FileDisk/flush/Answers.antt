use Rattle.std.proofs.Common.{subst}
use Rattle.sg_embed.specs.FileDisk.{FileDiskFields, FlushesFile}
use Rattle.sg_embed.proofs.FileDiskLemmas.{flushes, if-alive, if-dead, in-file}
use Rattle.sg_embed.proofs.file_disk.FileDisk.flush.Goals as goal

pub returns : goal.returns
returns c =
    let was = c.self.inside in
    let mid = c.flush.new.self in
    let new = c.keep_short.new in
    let said = c.flush.ensures in
    subst (λ (old : FileDiskFields). FlushesFile old (in-file new.disk was.device new.next)) c.self.view_is
    (flushes was.disk c.give_up.new.disk mid new.disk was.next new.next was.device c.self.invariant
    c.give_up.ensures.stopped
    (record {
      cause = λ alive dead. said.cause alive (if-dead _ c.flush.result mid.is_dead said.usable dead);
      stays_dead = said.stays_dead;
      any_moment = said.any_moment;
      later = said.later;
      is = λ _. said.disk;
    })
    said.events (λ alive. if-alive c.flush.result mid.is_dead said.failed said.flushed alive) said.disk
    c.keep_short.ensures.settles)
