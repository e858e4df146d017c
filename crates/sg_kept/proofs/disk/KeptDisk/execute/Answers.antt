use Rattle.std.proofs.Common.{Bool, [], ◌∷◌, not, ◌&&◌, subst, refl}
use Rattle.sg_target.specs.Executed.{executed_operation}
use Rattle.sg_target.specs.Target.{disk_of}
use Rattle.sg_target.specs.declared.event.Event.TheVariants.{Call as Command}
use Rattle.sg_kept.specs.History.{AddsEvents}
use Rattle.sg_kept.specs.Owing.{owes_flush}
use Rattle.sg_kept.proofs.disk.KeptDisk.execute.Goals as goal

pub returns-clause-events : goal.returns-clause-events
returns-clause-events g c call sent =
    let old = c.args.self.now in
    let done = c.execute_or_refuse-reply in
    let owes = owes_flush (disk_of done.new.self.target) c.args.cdb.now
    (executed_operation (disk_of old.target) c.args.initiator c.args.cdb.now c.args.data_out.now) in
    subst (λ (waits : Bool). AddsEvents g.D.Device.seen g.D.Device.moment g.D.Device.left_since old
    done.new.self (Command call ∷ []) (not waits && owes)) (done.ensures.flushed refl)
    (done.ensures.events call sent)
