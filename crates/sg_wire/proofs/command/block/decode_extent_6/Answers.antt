use Rattle.std.proofs.Common.{◌∙◌, ℕ, ap, arith}
use Rattle.std.specs.Prelude.{bit_and, slice_index}
use Rattle.std.proofs.lemmas.List.{take_rest}
use Rattle.byteorder.specs.Endian.{big_number}
use Rattle.sg_wire.specs.CdbFields.{blocks_of}
use Rattle.sg_wire.proofs.LayoutLemmas.{short_address}
use Rattle.sg_wire.proofs.command.block.decode_extent_6.Goals as goal

pub returns-clause-extent : goal.returns-clause-extent
returns-clause-extent c =
    let cdb = c.args.cdb.now in
    let lba = ap (λ n. bit_and n 0x1F_FFFF)
    (c.read_u24-lba.ensures ∙ ap (big_number 3) (take_rest cdb 1))
    ∙ short_address cdb (λ i. omega (arith, c.type_inv.cdb i)) in
    c.of_fields.ensures ∙ ap (λ (lba : ℕ). (lba, blocks_of (slice_index cdb 4))) lba
