use Rattle.std.proofs.Common.{◌≡◌, rules}
use Rattle.sg_target.specs.Charge.{cost_bounds}
use Rattle.sg_target.specs.declared.reply.Status.TheVariants.{Good}
use Rattle.sg_target.proofs.ArmedLemmas.{attempt-fits, attempt-on_disk}
use Rattle.sg_target.proofs.ConcludingLemmas.{takes-finished, takes-refused}
use Rattle.sg_target.proofs.target.Target.conclude_armed.Goals as goal

pub perform-reply-requires-clause-on_disk : goal.perform-reply-requires-clause-on_disk
perform-reply-requires-clause-on_disk g c =
    rw (c.attempt-tried.ensures.result, c.attempt-tried.ensures.state)
    (attempt-on_disk c.args.self.now.state.disk.capacity c.args.self.now.faults _ c.args.checked
    c.requires.on_disk)

pub perform-reply-requires-clause-room : goal.perform-reply-requires-clause-room
perform-reply-requires-clause-room g c =
    rw c.attempt-tried.ensures.result
    (attempt-fits _ c.args.self.now.faults _ c.args.checked c.requires.room)

pub returns-then-eq-clause-taken : goal.returns-then-eq-clause-taken
returns-then-eq-clause-taken g c =
    let good : c.perform-reply.result.status ≡ Good = search rules in
    takes-finished (cost_bounds g.S.Store.price g.S.Store.least) c.args.initiator c.args.cdb.now
    c.args.checked c.args.self.now c.attempt-tried.new.self c.perform-reply.new.self
    c.seen-command.result c.attempt-tried.result c.perform-reply.result c.args.buf.now
    c.perform-reply.new.buf c.seen-command.ensures c.attempt-tried.ensures.result
    c.attempt-tried.ensures.faults c.attempt-tried.ensures.state c.attempt-tried.ensures.meter
    c.perform-reply.ensures c.finish.new.self c.seen-command-2.result c.marked_by-mark.result
    c.finish.result c.seen-command-2.ensures c.marked_by-mark.ensures good c.finish.ensures.state
    c.finish.ensures.meter c.finish.ensures.faults c.finish.ensures.reply

pub returns-else-eq-clause-taken : goal.returns-else-eq-clause-taken
returns-else-eq-clause-taken g c =
    let bad : c.perform-reply.result.status ≡ Good → ⊥ = search rules in
    takes-refused (cost_bounds g.S.Store.price g.S.Store.least) c.args.initiator c.args.cdb.now
    c.args.checked c.args.self.now c.attempt-tried.new.self c.perform-reply.new.self
    c.seen-command.result c.attempt-tried.result c.perform-reply.result c.args.buf.now
    c.perform-reply.new.buf c.seen-command.ensures c.attempt-tried.ensures.result
    c.attempt-tried.ensures.faults c.attempt-tried.ensures.state c.attempt-tried.ensures.meter
    c.perform-reply.ensures bad
