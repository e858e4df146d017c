use Rattle.std.proofs.Common.{◌∙◌, ◌++◌, length, ap, arith, length-append}
use Rattle.sg_wire.specs.Cut.{answer_of}
use Rattle.sg_wire.specs.CutAnswer.{put}
use Rattle.sg_pages.specs.DataLengths.{unit_length}
use Rattle.sg_pages.specs.VitalProductData.{port_descriptors, unit_descriptors}
use Rattle.sg_pages.proofs.PageLemmas.{length-page, page-put, put-two}
use Rattle.sg_pages.proofs.vital_product_data.write_device_identification.Goals as goal

pub returns-clause-at_most : goal.returns-clause-at_most
returns-clause-at_most c =
    let i = c.args.identity.now in
    let port = c.port_descriptors-port.ensures.value ∙ ap port_descriptors c.profile.ensures in
    omega (
      arith,
      c.write_unit_descriptors.ensures.length,
      c.unit_length.ensures.value,
      c.unit_length.ensures.at_most,
      ap unit_length c.profile-2.ensures,
      c.port_descriptors-port.ensures.at_most,
      ap length port,
      length-append (unit_descriptors i) (port_descriptors i.profile),
      length-page 0x83 (unit_descriptors i ++ port_descriptors i.profile),
    )

pub returns-clause-data : goal.returns-clause-data
returns-clause-data c =
    let i = c.args.identity.now in
    let law = c.parts_are_put_in_turn.ensures in
    let port = c.port_descriptors-port.ensures.value ∙ ap port_descriptors c.profile.ensures in
    let header = c.put.ensures ∙ ap (put (answer_of c.args.cut.now)) c.header.ensures in
    let after = c.put-2.ensures ∙ ap (put (answer_of c.write_unit_descriptors.new.cut)) port in
    page-put law _ _ _ _ _ _
    (omega (
      arith,
      c.write_unit_descriptors.ensures.length,
      c.unit_length.ensures.value,
      c.unit_length.ensures.at_most,
      ap unit_length c.profile-2.ensures,
      c.port_descriptors-port.ensures.at_most,
      ap length port,
      length-append (unit_descriptors i) (port_descriptors i.profile),
    ))
    header (put-two law _ _ _ _ _ c.write_unit_descriptors.ensures.data after)
