use Rattle.sg_decode.proofs.ItemLemmas.{both_shown, first_shown}
use Rattle.sg_decode.proofs.extended_inquiry.show_from_versions.Goals as goal

pub returns-then-show_lines : goal.returns-then-show_lines
returns-then-show_lines g c =
    both_shown _ _ _ _ _ _ _ _ c.show_lines.ensures.verdict c.if-show_lines.true
    c.show_lines.ensures.text c.show_dump.ensures

pub returns-else-show_lines : goal.returns-else-show_lines
returns-else-show_lines g c =
    first_shown _ _ _ _ _ _ _ c.show_lines.ensures.verdict c.if-show_lines.false
    c.show_lines.ensures.text
