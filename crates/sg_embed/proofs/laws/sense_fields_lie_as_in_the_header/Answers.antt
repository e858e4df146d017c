use Rattle.std.proofs.Common.{refl, ◌∙◌}
use denote.Memory.{lone}
use Rattle.sg_embed.specs.contracts.record.SenseRecord.{the_row}
use Rattle.sg_embed.proofs.record.SenseRecord.TheLaws.{lowered, lowers}
use Rattle.sg_embed.proofs.InMemoryLemmas.{flag-byte, stores}
use Rattle.sg_embed.proofs.laws.sense_fields_lie_as_in_the_header.Goals as goal

pub returns : goal.returns
returns c = record {
  bytes = record {
    size = refl;
    stored = λ x v p.
        let information = flag-byte x.has_information in
        let pointer = flag-byte x.has_pointer in
        let command = flag-byte x.in_command in
        stores (lone the_row.mir) v (lowered x) (lowers.val_is x _ p)
        ∙ rw (information, pointer, command) refl;
  };
}
