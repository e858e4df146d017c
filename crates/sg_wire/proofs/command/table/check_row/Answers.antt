use Rattle.std.proofs.Common.{arith, ap, length}
use Rattle.sg_wire.proofs.TableLemmas.{at_most_16, row-decides}
use Rattle.sg_wire.specs.declared.profile.Profile.TheVariants.{Extended}
use Rattle.sg_wire.proofs.command.table.check_row.Goals as goal

pub check_masks-requires : goal.check_masks-requires
check_masks-requires c = omega (arith, at_most_16 c.args.row.now.name, ap length c.requires.4)

pub returns : goal.returns
returns c =
    let row = c.args.row.now in
    let checked = c.check_masks.ensures in
    let h = row-decides Extended c.args.cdb.now row.name row.masks.now c.check_masks.result c.requires.4
    checked.fits in
    record { decoded = h.0; refused = h.1; whole = checked.whole }
