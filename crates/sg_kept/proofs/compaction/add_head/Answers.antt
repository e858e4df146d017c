use Rattle.std.proofs.Common.{[], ◌∷◌, subst}
use Rattle.sg_changes.specs.Change.Change.{Pages, Reservations, Faults as FaultTable}
use Rattle.sg_faults.specs.Faults.{Faults}
use Rattle.sg_pages.specs.declared.mode_pages.mode_page.PageValues.{PageValues}
use Rattle.sg_target.specs.Target.{disk_of}
use Rattle.sg_units.specs.declared.reservation_state.ReservationState.{ReservationState}
use Rattle.sg_kept.specs.Changes.{persistent}
use Rattle.sg_kept.specs.Recording.{Adds}
use Rattle.sg_kept.proofs.CompactionLemmas.{head-begun}
use Rattle.sg_kept.proofs.RecordingLemmas.{adds-more}
use Rattle.sg_kept.proofs.compaction.add_head.Goals as goal

pub returns-clause-begun : goal.returns-clause-begun
returns-clause-begun g c =
    let disk = disk_of c.args.target.now in
    let a = c.add_first.new.batch in
    let b = c.add.new.self in
    let d = c.add-2.new.self in
    let last = c.add-3.new.self in
    let pages = subst (λ (v : PageValues). Adds a b (Pages v ∷ [])) c.saved_pages.ensures
    c.add.ensures.record in
    let held = subst (λ (r : ReservationState). Adds b d (Reservations (persistent r) ∷ []))
    c.reservations.ensures c.add-2.ensures.record in
    let armed = subst (λ (f : Faults). Adds d last (FaultTable f ∷ [])) c.fault_table.ensures
    c.add-3.ensures.record in
    head-begun c.records_are_replayed.ensures c.first_records_are_exact.ensures c.runs_make_the_disk.ensures
    disk c.new_disk-disk.result a last c.add_first.ensures.begun c.new_disk-disk.ensures c.requires.sound
    c.requires.limits.registered
    (adds-more a d last (Pages disk.state.modes.saved
    ∷ Reservations (persistent disk.state.reservations) ∷ []) (FaultTable disk.faults ∷ [])
    (adds-more a b d (Pages disk.state.modes.saved ∷ [])
    (Reservations (persistent disk.state.reservations) ∷ []) pages held) armed)
