use Rattle.std.proofs.Common.{rules}
use Rattle.sg_run.specs.ScriptRun.{snapshot}
use Rattle.sg_target.specs.Target.{disk_of}
use Rattle.sgrun.proofs.NewDiskLemmas.{on_new_disk, refused_on_new_disk}
use Rattle.sgrun.proofs.new_disk.run_over.Goals as goal

pub returns-in_err-target : goal.returns-in_err-target
returns-in_err-target g c =
    let at = snapshot g.R.Read.remaining g.W.Write.contents c.args.reader.now c.args.writer.now in
    refused_on_new_disk c.args.disk at _ (search rules)

pub returns : goal.returns
returns g c =
    let at = snapshot g.R.Read.remaining g.W.Write.contents in
    on_new_disk c.args.disk (at c.args.reader.now c.args.writer.now)
    (at c.run_in_new_session.new.reader c.run_in_new_session.new.writer)
    (disk_of c.in_ok-target.target) (disk_of c.run_in_new_session.new.target) _
    (search rules) c.run_in_new_session.ensures
