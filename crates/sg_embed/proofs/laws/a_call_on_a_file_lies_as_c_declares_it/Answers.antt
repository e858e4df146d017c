use Rattle.std.proofs.Common.{refl}
use denote.Memory.{lone}
use Rattle.sg_embed.specs.contracts.file_record.FileCallRecord.{the_row}
use Rattle.sg_embed.proofs.file_record.FileCallRecord.TheLaws.{lowered, lowers}
use Rattle.sg_embed.proofs.InMemoryLemmas.{stores}
use Rattle.sg_embed.proofs.laws.a_call_on_a_file_lies_as_c_declares_it.Goals as goal

pub returns : goal.returns
returns c = record {
  bytes = record {
    size = refl;
    stored = λ x v p. stores (lone the_row.mir) v (lowered x) (lowers.val_is x _ p);
  };
}
