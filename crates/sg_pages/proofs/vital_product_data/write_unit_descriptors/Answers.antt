use Rattle.std.proofs.Common.{◌≡◌, ◌++◌, length, arith, length-append}
use Rattle.sg_pages.proofs.PageLemmas.{put-two, descriptor-put, length-descriptors}
use Rattle.sg_pages.proofs.vital_product_data.write_unit_descriptors.Goals as goal

pub returns-clause-length : goal.returns-clause-length
returns-clause-length c =
    length-descriptors c.args.identity.now c.write_names.ensures.vendor
    c.write_names.ensures.product c.write_names.ensures.serial

pub returns-clause-data : goal.returns-clause-data
returns-clause-data c =
    let i = c.args.identity.now in
    let n = c.write_names.ensures in
    let names : 32 ≡ length (i.vendor ++ (i.product ++ i.serial)) =
    omega (
      arith,
      n.vendor,
      n.product,
      n.serial,
      length-append i.vendor (i.product ++ i.serial),
      length-append i.product i.serial,
    ) in
    let law = c.parts_are_put_in_turn.ensures in
    put-two law _ _ _ _ _
    (descriptor-put law _ _ _ _ _ _ _ names c.put.ensures n.names)
    c.write_naa_descriptor.ensures
