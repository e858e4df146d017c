use Rattle.std.proofs.Common.{◌≡◌, inr, [], ◌∷◌, Some, true, refl, ap, ◌∙◌}
use Rattle.sg_target.specs.Armed.{Armed}
use Rattle.sg_target.specs.Runs.{armed_after_happening}
use Rattle.sg_target.specs.Target.{disk_of}
use Rattle.sg_target.specs.declared.event.Event.TheVariants.{Happen}
use Rattle.sg_kept.specs.Kept.{powered}
use Rattle.sg_kept.proofs.HistoryLemmas.{adds-events}
use Rattle.sg_kept.proofs.disk.KeptDisk.happen.Goals as goal

pub returns-then-self-clause-events : goal.returns-then-self-clause-events
returns-then-self-clause-events g c =
    let old = c.args.self.now in
    let dead : old.is_dead ≡ true = c.if-self.true in
    adds-events g.D.Device.seen old old (Happen c.args.happening ∷ [])
    (armed_after_happening (disk_of old.target) c.args.happening) refl g.D.Device.moment
    g.D.Device.left_since true (λ alive. absurd cc) (λ alive. absurd cc)

pub returns-in-Ok-clause-events : goal.returns-in-Ok-clause-events
returns-in-Ok-clause-events g c =
    let old = c.args.self.now in
    let done = c.in-Ok.ensures in
    let written = done.written ∙ ap (λ (d : Armed). Some (powered d)) done.happened in
    adds-events g.D.Device.seen old c.happen_and_write.new.self (Happen c.args.happening ∷ [])
    (armed_after_happening (disk_of old.target) c.args.happening) refl g.D.Device.moment
    g.D.Device.left_since true (λ alive. c.happen_and_write.ensures.any_moment)
    (λ alive. (done.happened, (inr written, λ yes. written)))

pub returns-in-Err-clause-events : goal.returns-in-Err-clause-events
returns-in-Err-clause-events g c =
    let old = c.args.self.now in
    adds-events g.D.Device.seen old (record c.happen_and_write.new.self { is_dead = true })
    (Happen c.args.happening ∷ []) (armed_after_happening (disk_of old.target) c.args.happening) refl
    g.D.Device.moment g.D.Device.left_since true
    (λ alive. c.happen_and_write.ensures.any_moment) (λ alive. absurd cc)
