use Rattle.std.proofs.Common.{refl, subst}
use Rattle.sg_embed.specs.FileDisk.{ExecutesInFile, FileDiskFields}
use Rattle.sg_embed.proofs.FileDiskLemmas.{executes, in-file}
use Rattle.sg_embed.proofs.file_disk.FileDisk.execute_within.Goals as goal

pub returns-then-self-clause-executed : goal.returns-then-self-clause-executed
returns-then-self-clause-executed c =
    let a = c.args in
    let was = c.self.inside in
    let mid = c.execute_or_refuse-done in
    let new = c.keep_short.new in
    let said = mid.ensures in
    let reply = c.failure_reply.result in
    let waits = mid.result.waits in
    subst (λ (old : FileDiskFields). ExecutesInFile a.initiator a.cdb.now a.data_out.now reply waits
    a.buf.now mid.new.buf old (in-file new.disk was.device new.next)) c.self.view_is
    (executes a.initiator a.cdb.now a.data_out.now a.buf.now mid.new.buf was.disk c.give_up.new.disk
    mid.new.self new.disk was.next new.next was.device mid.result.reply reply waits c.self.invariant
    c.give_up.ensures.stopped
    (record {
      cause = said.cause;
      stays_dead = said.stays_dead;
      any_moment = said.any_moment;
      later = said.later;
      is = λ alive. (said.executed alive).after;
    })
    said.executed said.owed said.waits said.unwritten said.alive said.events
    c.keep_short.ensures.settles (λ alive. absurd cc) (λ _. c.failure_reply.ensures))

pub returns-clause-executed : goal.returns-clause-executed
returns-clause-executed c =
    let a = c.args in
    let was = c.self.inside in
    let mid = c.execute_or_refuse-done in
    let new = c.keep_short.new in
    let said = mid.ensures in
    let reply = mid.result.reply in
    let waits = mid.result.waits in
    subst (λ (old : FileDiskFields). ExecutesInFile a.initiator a.cdb.now a.data_out.now reply waits
    a.buf.now mid.new.buf old (in-file new.disk was.device new.next)) c.self.view_is
    (executes a.initiator a.cdb.now a.data_out.now a.buf.now mid.new.buf was.disk c.give_up.new.disk
    mid.new.self new.disk was.next new.next was.device mid.result.reply reply waits c.self.invariant
    c.give_up.ensures.stopped
    (record {
      cause = said.cause;
      stays_dead = said.stays_dead;
      any_moment = said.any_moment;
      later = said.later;
      is = λ alive. (said.executed alive).after;
    })
    said.executed said.owed said.waits said.unwritten said.alive said.events
    c.keep_short.ensures.settles (λ _. refl) (λ dead. absurd cc))
