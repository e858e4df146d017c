use Rattle.sg_decode.specs.VitalProductData.{extended_vital_product_data}
use Rattle.sg_decode.proofs.DecoderLemmas.{header_ends, goes_on}
use Rattle.sg_decode.proofs.extended_vital_product_data.put_extended_vpd.Goals as goal

pub returns-then-show_lines : goal.returns-then-show_lines
returns-then-show_lines g c =
    goes_on extended_vital_product_data _ _ _ _ _ c.show_lines.ensures.verdict c.if-show_lines.true
    c.show_lines.ensures.text
    (rw c.number_of_two.ensures.value at c.show_extended_page.ensures)

pub returns-else-show_lines : goal.returns-else-show_lines
returns-else-show_lines g c =
    header_ends extended_vital_product_data _ _ _ _ c.show_lines.ensures.verdict
    c.if-show_lines.false c.show_lines.ensures.text
