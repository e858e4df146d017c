use Rattle.sg_decode.proofs.extended_vital_product_data.show_extended_page.Goals as goal

pub returns-in-134 : goal.returns-in-134
returns-in-134 g c = rw c.in-134.is c.show_lines.ensures.text

pub returns-in-176 : goal.returns-in-176
returns-in-176 g c = rw c.in-176.is c.show_lines-in-176.ensures.text

pub returns-in-177 : goal.returns-in-177
returns-in-177 g c = rw c.in-177.is c.show_lines-in-177.ensures.text
