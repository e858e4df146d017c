use Rattle.std.proofs.Common.{[], ◌∷◌, refl, sym, ap, subst, ◌∙◌}
use Rattle.sg_changes.specs.FirstRecord.{new_disk_kept}
use Rattle.sg_changes.specs.Laws.{IsSound}
use Rattle.sg_kept.specs.Kept.{restored}
use Rattle.sg_kept.proofs.OpeningLemmas.{filed-one, started, unmade-leaves}
use Rattle.sg_kept.proofs.opening.begin_file.Goals as goal

pub target_of-target-requires-clause-sound : goal.target_of-target-requires-clause-sound
target_of-target-requires-clause-sound g c =
    subst IsSound (sym c.requires.parts)
    (c.kept_stays_sound.ensures.new c.args.disk.now c.add_first.ensures.new)

pub returns-in-Ok-clause-started : goal.returns-in-Ok-clause-started
returns-in-Ok-clause-started g c =
    let left = new_disk_kept c.args.disk.now in
    let first = c.add_first.new.batch.records in
    started g.D.Device.seen g.D.Device.may_leave _ (first ∷ []) left
    c.in-Ok.ensures.batches (filed-one first left c.add_first.ensures.begun) refl
    (c.target_of-target.ensures.disk ∙ ap restored c.requires.parts) c.target_of-target.ensures.limits
    c.in-Ok.ensures.empty c.write_first.ensures.sector c.requires.scratch refl

pub returns-in-Ok-clause-any_moment : goal.returns-in-Ok-clause-any_moment
returns-in-Ok-clause-any_moment g c =
    unmade-leaves g.D.Device.moment g.D.Device.left_since c.args.journal.device
    c.write_first.new.journal.device (g.D.Device.seen c.args.journal.device) c.add_first.new.batch.records
    (new_disk_kept c.args.disk.now) c.requires.batches.found c.add_first.ensures.begun
    c.write_first.ensures.any_moment

pub returns-in-Err-clause-any_moment_of_error : goal.returns-in-Err-clause-any_moment_of_error
returns-in-Err-clause-any_moment_of_error g c =
    unmade-leaves g.D.Device.moment g.D.Device.left_since c.args.journal.device
    c.write_first.new.journal.device (g.D.Device.seen c.args.journal.device) c.add_first.new.batch.records
    (new_disk_kept c.args.disk.now) c.requires.batches.found c.add_first.ensures.begun
    c.write_first.ensures.any_moment
