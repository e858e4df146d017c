use Rattle.sg_run.specs.ScriptRun.{snapshot}
use Rattle.sgrun.proofs.KeptDiskLemmas.{run_and_saved}
use Rattle.sgrun.proofs.kept_disk.run_on_kept_disk.Goals as goal

pub returns : goal.returns
returns g c =
    let served = rw c.in_ok-save.was at c.save.ensures.served in
    let saved = rw c.in_ok-save.was at c.save.ensures.saved in
    let after = c.run_script-ran.new.target in
    run_and_saved g.D.Device.seen g.D.Device.opening c.args.file _ after.disk c.save.new.disk
    after.cycles.items after.substitute
    (snapshot g.R.Read.remaining g.W.Write.contents c.args.reader.now c.args.writer.now)
    (snapshot g.R.Read.remaining g.W.Write.contents c.run_script-ran.new.reader
    c.run_script-ran.new.writer)
    c.run_script-ran.result c.outcome_of_run.result served saved
    (c.save.ensures.disk after.substitute) c.run_script-ran.ensures.runs c.outcome_of_run.ensures
