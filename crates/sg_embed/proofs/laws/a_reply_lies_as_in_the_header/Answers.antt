use Rattle.std.proofs.Common.{refl, ◌∙◌}
use denote.Memory.{lone}
use Rattle.sg_embed.specs.contracts.record.ReplyRecord.{the_row}
use Rattle.sg_embed.proofs.record.ReplyRecord.TheLaws.{lowered, lowers}
use Rattle.sg_embed.proofs.InMemoryLemmas.{array-bytes, stores}
use Rattle.sg_embed.proofs.laws.a_reply_lies_as_in_the_header.Goals as goal

pub returns : goal.returns
returns c = record {
  bytes = record {
    size = refl;
    stored = λ x v p.
        let sense = array-bytes 20 _ p.1.1.1.1.0.1.0.1 in
        stores (lone the_row.mir) v (lowered x) (lowers.val_is x _ p) ∙ rw sense refl;
  };
}
