use Rattle.std.proofs.Common.{refl}
use denote.Memory.{lone}
use Rattle.sg_embed.specs.contracts.file_record.DamageRecord.{the_row}
use Rattle.sg_embed.proofs.file_record.DamageRecord.TheLaws.{lowered, lowers}
use Rattle.sg_embed.proofs.InMemoryLemmas.{stores}
use Rattle.sg_embed.proofs.laws.damage_lies_as_in_the_header.Goals as goal

pub returns : goal.returns
returns c = record {
  bytes = record {
    size = refl;
    stored = λ x v p. stores (lone the_row.mir) v (lowered x) (lowers.val_is x _ p);
  };
}
