use Rattle.sg_wire.specs.Cut.{answer_of}
use Rattle.sg_wire.proofs.CutLemmas.{put-longer, put-replaced, written-within}
use Rattle.sg_wire.proofs.laws.parts_are_replaced.Goals as goal

pub returns : goal.returns
returns c = record {
  kept = λ cut bytes. put-longer (answer_of cut) bytes (written-within cut);
  replaced = λ cut old new behind same.
      put-replaced (answer_of cut) old new behind (written-within cut) same;
}
