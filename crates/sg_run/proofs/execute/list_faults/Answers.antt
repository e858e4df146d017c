use Rattle.std.proofs.Common.{◌++◌, ◌∙◌, ap, codes, refl}
use Rattle.sg_wire.proofs.PrintingLemmas.{Prints-on}
use Rattle.sg_target.specs.State.{profile_of}
use Rattle.sg_run.specs.FaultText.{faults_text}
use Rattle.sg_run.specs.Outcome.{line_header}
use Rattle.sg_run.proofs.FaultTextLemmas.{Prints-same}
use Rattle.sg_run.proofs.execute.list_faults.Goals as goal

pub returns : goal.returns
returns g c =
    let disk = g.T.DeviceServer.disk c.args.target.now in
    let header = line_header c.args.number (codes "FAULTS") in
    record {
      text =
          Prints-same
          (ap (λ p. header ++ faults_text p c.faults.result.now) c.profile.ensures
          ∙ ap (λ t. header ++ faults_text (profile_of disk.state) t) c.faults.ensures)
          (Prints-on c.put_line_header.ensures c.put_faults.ensures);
      disk_is = refl;
      status_is = refl;
    }
