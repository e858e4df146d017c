use Rattle.std.proofs.Common.{refl, ◌∙◌}
use denote.Memory.{lone}
use Rattle.sg_embed.specs.contracts.file_record.WantedRecord.{the_row}
use Rattle.sg_embed.proofs.file_record.WantedRecord.TheLaws.{lowered, lowers}
use Rattle.sg_embed.proofs.InMemoryLemmas.{array-bytes, stores}
use Rattle.sg_embed.proofs.laws.what_is_wanted_lies_as_c_declares_it.Goals as goal

pub returns : goal.returns
returns c = record {
  bytes = record {
    size = refl;
    stored = λ x v p.
        let identity = p.1.1.1.1.1.1.1.0.1 in
        let vendor = array-bytes 8 _ identity.1.0.1.0.1 in
        let product = array-bytes 16 _ identity.1.1.0.1.0.1 in
        let revision = array-bytes 4 _ identity.1.1.1.0.1.0.1 in
        let serial = array-bytes 8 _ identity.1.1.1.1.0.1.0.1 in
        stores (lone the_row.mir) v (lowered x) (lowers.val_is x _ p)
        ∙ rw (vendor, product, revision, serial) refl;
  };
}
