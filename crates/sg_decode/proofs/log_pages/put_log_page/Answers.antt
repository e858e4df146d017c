use Rattle.sg_decode.specs.LogPages.{log_page}
use Rattle.sg_decode.proofs.DecoderLemmas.{header_ends, goes_on}
use Rattle.sg_decode.proofs.log_pages.put_log_page.Goals as goal

pub returns-then-show_lines : goal.returns-then-show_lines
returns-then-show_lines g c =
    goes_on log_page _ _ _ _ _ c.show_lines.ensures.verdict c.if-show_lines.true
    c.show_lines.ensures.text
    (rw (c.log_entries-kind.ensures, c.bits_of.ensures, c.number_of_two-end.ensures.value) at
    c.show_entries.ensures)

pub returns-else-show_lines : goal.returns-else-show_lines
returns-else-show_lines g c =
    header_ends log_page _ _ _ _ c.show_lines.ensures.verdict c.if-show_lines.false
    c.show_lines.ensures.text
