use Rattle.sg_decode.specs.VitalProductData.{vital_product_data}
use Rattle.sg_decode.proofs.DecoderLemmas.{header_ends, goes_on}
use Rattle.sg_decode.proofs.vital_product_data.put_vpd.Goals as goal

pub returns-then-show_lines : goal.returns-then-show_lines
returns-then-show_lines g c =
    goes_on vital_product_data _ _ _ _ _ c.show_lines.ensures.verdict c.if-show_lines.true
    c.show_lines.ensures.text (rw c.number_of_two.ensures.value at c.show_page.ensures)

pub returns-else-show_lines : goal.returns-else-show_lines
returns-else-show_lines g c =
    header_ends vital_product_data _ _ _ _ c.show_lines.ensures.verdict c.if-show_lines.false
    c.show_lines.ensures.text
