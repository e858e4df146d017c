use Rattle.sg_decode.specs.Inquiry.{extended_inquiry}
use Rattle.sg_decode.proofs.DecoderLemmas.{header_ends, goes_on}
use Rattle.sg_decode.proofs.extended_inquiry.put_extended_inquiry.Goals as goal

pub returns-then-show_lines : goal.returns-then-show_lines
returns-then-show_lines g c =
    goes_on extended_inquiry _ _ _ _ _ c.show_lines.ensures.verdict c.if-show_lines.true
    c.show_lines.ensures.text (rw c.from.ensures at c.show_after_names.ensures)

pub returns-else-show_lines : goal.returns-else-show_lines
returns-else-show_lines g c =
    header_ends extended_inquiry _ _ _ _ c.show_lines.ensures.verdict c.if-show_lines.false
    c.show_lines.ensures.text
