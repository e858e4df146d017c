use Rattle.std.proofs.Common.{refl}
use Rattle.sg_target.specs.Armed.{armed_step}
use Rattle.sg_target.specs.Target.{disk_of}
use Rattle.sg_kept.specs.Disk.{failure_reply}
use Rattle.sg_kept.proofs.ServingLemmas.{reply-fits}
use Rattle.sgrun.proofs.disk_in_file.DiskInFileDeviceServer.execute.Goals as goal

pub returns-in-Ok-clause-data_in : goal.returns-in-Ok-clause-data_in
returns-in-Ok-clause-data_in g c =
    let a = c.args in
    let done = c.execute.ensures in
    reply-fits c.execute.new.self.is_dead
    (armed_step (disk_of c.in-Ok.kept.target) a.initiator a.cdb.now a.data_out.now)
    (failure_reply c.execute.new.self.target.state) c.execute.result a.buf.now c.execute.new.buf
    (λ alive. (done.executed alive).answer) done.failed refl
