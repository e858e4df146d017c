use Rattle.sg_wire.specs.declared.command.Class.TheVariants.{Reads, Writes}
use Rattle.sg_fencing.proofs.HolderLemmas.{alone, is-exclusive, refuses-others}
use Rattle.sg_fencing.proofs.AccessLemmas.{shut-out}
use Rattle.sg_fencing.proofs.laws.others_are_shut_out.Goals as goal

pub returns : goal.returns
returns c state holder other cdb data_out w differ held =
    let h = alone state holder w held in
    let refused = refuses-others c.others_are_refused.ensures state.reservations holder other differ h in
    record {
      writes =
          λ is.
          shut-out state other cdb data_out Writes is refused.writes;
      reads =
          λ is exclusive.
          shut-out state other cdb data_out Reads is
          (refused.reads (is-exclusive state holder h exclusive));
    }
