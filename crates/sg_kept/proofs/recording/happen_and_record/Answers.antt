use Rattle.std.proofs.Common.{◌≡◌, Some, sym, ap, ap₂, subst}
use Rattle.sg_changes.specs.Change.{applied_all}
use Rattle.sg_faults.specs.Faults.{Faults}
use Rattle.sg_journal.specs.BatchValue.{BatchValue}
use Rattle.sg_target.specs.Armed.{Armed}
use Rattle.sg_target.specs.Runs.{armed_after_happening}
use Rattle.sg_target.specs.State.{State}
use Rattle.sg_target.specs.Target.{disk_of}
use Rattle.sg_kept.specs.Changes.{happening_changes}
use Rattle.sg_kept.specs.Kept.{kept}
use Rattle.sg_kept.proofs.RecordingLemmas.{replay-adds}
use Rattle.sg_kept.proofs.recording.happen_and_record.Goals as goal

pub returns-clause-waits : goal.returns-clause-waits
returns-clause-waits g c left waits =
    let disk = disk_of c.args.target.now in
    let after = disk_of c.happen.new.self in
    let happened : after ≡ armed_after_happening disk c.args.happening.now =
    ap₂ (λ (s : State) (f : Faults). record { state = s; faults = f }) c.happen.ensures.state
    c.happen.ensures.faults in
    let makes = subst (λ (d : Armed). applied_all (kept disk) (happening_changes disk d c.args.happening.now)
    ≡ Some (kept d)) (sym happened) (c.happenings_make_their_changes.ensures disk c.args.happening.now) in
    replay-adds c.records_are_replayed.ensures c.args.batch.now c.add_happening.new.batch
    (happening_changes disk after c.args.happening.now) left (kept disk) (kept after)
    (c.add_happening.ensures.records disk (sym c.capacity-old_capacity.ensures)) waits makes

pub returns-clause-sector : goal.returns-clause-sector
returns-clause-sector g c =
    let disk = disk_of c.args.target.now in
    ap (λ (b : BatchValue). b.sector)
    (c.add_happening.ensures.records disk (sym c.capacity-old_capacity.ensures)).added
