use Rattle.std.proofs.Common.{◌≡◌, [], ◌∷◌, ◌&&◌, not, true, Some, ap, subst, ◌∙◌}
use Rattle.std.proofs.lemmas.Bool.{and_parts, not-true}
use Rattle.sg_target.specs.Armed.{Armed, armed_step}
use Rattle.sg_target.specs.Executed.{executed_operation}
use Rattle.sg_target.specs.Target.{disk_of}
use Rattle.sg_target.specs.declared.event.Event.TheVariants.{Call as Command}
use Rattle.sg_kept.specs.Kept.{powered}
use Rattle.sg_kept.specs.Opened.{IsBeforeOr}
use Rattle.sg_kept.specs.Owing.{owes_flush}
use Rattle.sg_kept.proofs.HistoryLemmas.{adds-events, sent-is}
use Rattle.sg_kept.proofs.disk.KeptDisk.execute_or_refuse.Goals as goal

pub returns-then-self-clause-events : goal.returns-then-self-clause-events
returns-then-self-clause-events g c call sent =
    let old = c.args.self.now in
    let dead : old.is_dead ≡ true = c.if-self.true in
    adds-events g.D.Device.seen old old (Command call ∷ []) _
    (sent-is (disk_of old.target) call c.args.initiator c.args.cdb.now c.args.data_out.now sent)
    g.D.Device.moment g.D.Device.left_since _ (λ alive. absurd cc) (λ alive. absurd cc)

pub returns-in-Ok-clause-events : goal.returns-in-Ok-clause-events
returns-in-Ok-clause-events g c call sent =
    let old = c.args.self.now in
    let new = c.step.new.self in
    let seen = g.D.Device.seen in
    let disk = disk_of old.target in
    let i = c.args.initiator in
    let cdb = c.args.cdb.now in
    let data_out = c.args.data_out.now in
    let done = c.in-Ok.ensures in
    let done_waits = c.in-Ok.done.waits in
    let owes = owes_flush (disk_of new.target) cdb (executed_operation disk i cdb data_out) in
    let after : disk_of new.target ≡ (armed_step disk i cdb data_out).after
    = done.executed.after in
    adds-events seen old new (Command call ∷ []) _
    (sent-is disk call i cdb data_out sent) g.D.Device.moment
    g.D.Device.left_since (not done_waits && owes)
    (λ alive. c.step.ensures.any_moment)
    (λ alive. (
      after,
      (
        subst (λ (d : Armed). IsBeforeOr (seen old.journal.device) d (seen new.journal.device)) after
            done.left,
        λ both. let parts = and_parts (not done_waits) owes both in
            done.owed (not-true done_waits parts.0) parts.1 ∙ ap (λ (d : Armed). Some (powered d)) after,
      ),
    ))

pub returns-in-Err-clause-events : goal.returns-in-Err-clause-events
returns-in-Err-clause-events g c call sent =
    let old = c.args.self.now in
    adds-events g.D.Device.seen old (record c.step.new.self { is_dead = true }) (Command call ∷ []) _
    (sent-is (disk_of old.target) call c.args.initiator c.args.cdb.now c.args.data_out.now sent)
    g.D.Device.moment g.D.Device.left_since _ (λ alive. c.step.ensures.any_moment) (λ alive. absurd cc)
