use Rattle.sg_wire.specs.declared.command.Class.TheVariants.{Reads, Writes}
use Rattle.sg_fencing.proofs.AccessLemmas.{shut-out}
use Rattle.sg_fencing.proofs.OutsiderLemmas.{outside, shut}
use Rattle.sg_fencing.proofs.laws.the_unregistered_are_kept_out.Goals as goal

pub returns : goal.returns
returns c state initiator cdb data_out fenced =
    let no = shut c.others_are_refused.ensures state initiator (outside state initiator fenced) in
    record {
      writes = λ is. shut-out state initiator cdb data_out Writes is no.writes;
      reads = λ is exclusive. shut-out state initiator cdb data_out Reads is (no.reads exclusive);
    }
