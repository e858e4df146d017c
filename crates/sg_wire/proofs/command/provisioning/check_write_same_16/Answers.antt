use Rattle.std.proofs.Common.{refl, subst, sym}
use Rattle.std.specs.Prelude.{IfErr, OnOk}
use Rattle.sg_wire.specs.CdbDecoding.{masks_in}
use Rattle.sg_wire.specs.Table.{IsDecodedIn, IsRefusedIn, layout_of}
use Rattle.sg_wire.specs.declared.command.table.Name.TheVariants.{WriteSame16}
use Rattle.sg_wire.specs.declared.profile.Profile.{Profile}
use Rattle.sg_wire.specs.declared.profile.Profile.TheVariants.{Base}
use Rattle.sg_wire.proofs.TableLemmas.{row-decides}
use Rattle.sg_wire.proofs.command.provisioning.check_write_same_16.Goals as goal

pub returns-in-Base-clause-decoded : goal.returns-in-Base-clause-decoded
returns-in-Base-clause-decoded c =
    let cdb = c.args.cdb.now in
    let checked = c.check_masks.result in
    let h = row-decides Base cdb WriteSame16 (masks_in Base (layout_of WriteSame16)) checked refl
    c.check_masks.ensures.fits in
    subst (λ (p : Profile). OnOk checked (IsDecodedIn p cdb WriteSame16)) (sym c.in-Base.is) h.0

pub returns-in-Base-clause-refused : goal.returns-in-Base-clause-refused
returns-in-Base-clause-refused c =
    let cdb = c.args.cdb.now in
    let checked = c.check_masks.result in
    let h = row-decides Base cdb WriteSame16 (masks_in Base (layout_of WriteSame16)) checked refl
    c.check_masks.ensures.fits in
    subst (λ (p : Profile). IfErr checked (IsRefusedIn p cdb WriteSame16)) (sym c.in-Base.is) h.1

pub returns-in-Extended-clause-decoded : goal.returns-in-Extended-clause-decoded
returns-in-Extended-clause-decoded c =
    subst (λ (p : Profile). OnOk c.check_row.result (IsDecodedIn p c.args.cdb.now WriteSame16))
    (sym c.in-Extended.is) c.check_row.ensures.decoded
