use Rattle.sg_wire.proofs.CutLemmas.{filled, filled-length}
use Rattle.sg_wire.proofs.laws.answers_are_in_their_buffers.Goals as goal

pub returns : goal.returns
returns c = record {
  written = filled-length;
  left = λ buffer bytes left full limit begun done e f h.
      filled buffer bytes left full limit begun done e f h;
}
