use Rattle.sg_decode.specs.SupportedOperations.{one_command}
use Rattle.sg_decode.proofs.DecoderLemmas.{header_ends, goes_on}
use Rattle.sg_decode.proofs.supported_operations.put_one_command.Goals as goal

pub returns-then-show_lines : goal.returns-then-show_lines
returns-then-show_lines g c =
    goes_on one_command _ _ _ _ _ c.show_lines.ensures.verdict c.if-show_lines.true
    c.show_lines.ensures.text
    (rw (c.number_of_two-size.ensures.value, c.one_command_end.ensures.value) at
    c.show_usage_and_timeouts.ensures)

pub returns-else-show_lines : goal.returns-else-show_lines
returns-else-show_lines g c =
    header_ends one_command _ _ _ _ c.show_lines.ensures.verdict c.if-show_lines.false
    c.show_lines.ensures.text
