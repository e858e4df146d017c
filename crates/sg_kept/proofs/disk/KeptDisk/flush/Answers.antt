use Rattle.std.proofs.Common.{◌≡◌, inr, [], true, refl}
use Rattle.sg_target.specs.Target.{disk_of}
use Rattle.sg_kept.proofs.HistoryLemmas.{adds-events}
use Rattle.sg_kept.proofs.disk.KeptDisk.flush.Goals as goal

pub returns-then-self-clause-events : goal.returns-then-self-clause-events
returns-then-self-clause-events g c =
    let old = c.args.self.now in
    let dead : old.is_dead ≡ true = c.if-self.true in
    adds-events g.D.Device.seen old old [] (disk_of old.target) refl g.D.Device.moment
    g.D.Device.left_since true (λ alive. absurd cc) (λ alive. absurd cc)

pub returns-in-Ok-clause-events : goal.returns-in-Ok-clause-events
returns-in-Ok-clause-events g c =
    let old = c.args.self.now in
    let flushed = c.in-Ok.ensures.flushed in
    adds-events g.D.Device.seen old c.write_out.new.self [] (disk_of old.target) refl g.D.Device.moment
    g.D.Device.left_since true (λ alive. c.write_out.ensures.any_moment)
    (λ alive. (c.write_out.ensures.disk, (inr flushed, λ yes. flushed)))

pub returns-in-Err-clause-events : goal.returns-in-Err-clause-events
returns-in-Err-clause-events g c =
    let old = c.args.self.now in
    adds-events g.D.Device.seen old (record c.write_out.new.self { is_dead = true }) []
    (disk_of old.target) refl g.D.Device.moment g.D.Device.left_since true
    (λ alive. c.write_out.ensures.any_moment) (λ alive. absurd cc)
