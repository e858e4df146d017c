use Rattle.std.proofs.Common.{ℕ, ◌+◌, sym, subst}
use Rattle.sg_changes.specs.Snapshot.{kept_below, run_changes}
use Rattle.sg_target.specs.State.{State}
use Rattle.sg_target.specs.Target.{disk_of}
use Rattle.sg_kept.specs.Compaction.{LeadsOn}
use Rattle.sg_kept.specs.Kept.{kept}
use Rattle.sg_kept.specs.Recording.{Adds}
use Rattle.sg_kept.proofs.CompactionLemmas.{leads-run}
use Rattle.sg_kept.proofs.compaction.add_run_at.Goals as goal

pub returns-clause-records : goal.returns-clause-records
returns-clause-records g c =
    let k = kept (disk_of c.args.target.now) in
    let run = c.run_at-run.result in
    let extent = c.first_of-extent.result in
    let of_it = c.first_of-extent.ensures in
    subst (λ (n : ℕ). LeadsOn c.args.batch.now c.add_run.new.batch (kept_below k c.args.lba)
    (kept_below k (c.args.lba + n))) (sym c.from.ensures)
    (leads-run c.records_are_replayed.ensures c.runs_make_the_disk.ensures k c.args.lba run extent
    c.args.batch.now c.add_run.new.batch c.requires.sound c.requires.on_disk c.run_at-run.ensures.run
    of_it.lba of_it.at_most
    (subst (λ (s : State). Adds c.args.batch.now c.add_run.new.batch (run_changes s.disk.contents extent
    run.status)) c.run_at-run.ensures.state c.add_run.ensures.records))
