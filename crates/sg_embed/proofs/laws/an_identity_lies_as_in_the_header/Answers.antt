use Rattle.std.proofs.Common.{refl, ◌∙◌}
use denote.Memory.{lone}
use Rattle.sg_embed.specs.contracts.record.IdentityRecord.{the_row}
use Rattle.sg_embed.proofs.record.IdentityRecord.TheLaws.{lowered, lowers}
use Rattle.sg_embed.proofs.InMemoryLemmas.{array-bytes, stores}
use Rattle.sg_embed.proofs.laws.an_identity_lies_as_in_the_header.Goals as goal

pub returns : goal.returns
returns c = record {
  bytes = record {
    size = refl;
    stored = λ x v p.
        let vendor = array-bytes 8 _ p.1.1.0.1.0.1 in
        let product = array-bytes 16 _ p.1.1.1.0.1.0.1 in
        let revision = array-bytes 4 _ p.1.1.1.1.0.1.0.1 in
        let serial = array-bytes 8 _ p.1.1.1.1.1.0.1.0.1 in
        stores (lone the_row.mir) v (lowered x) (lowers.val_is x _ p)
        ∙ rw (vendor, product, revision, serial) refl;
  };
}
