use Rattle.sg_decode.specs.ModeParameters.{mode_parameters_10}
use Rattle.sg_decode.proofs.DecoderLemmas.{header_ends, goes_on}
use Rattle.sg_decode.proofs.mode_parameters.put_modes_10.Goals as goal

pub returns-then-show_lines : goal.returns-then-show_lines
returns-then-show_lines g c =
    goes_on mode_parameters_10 _ _ _ _ _ c.show_lines.ensures.verdict c.if-show_lines.true
    c.show_lines.ensures.text
    (rw (c.number_of_two-size.ensures.value, c.number_of_two.ensures.value) at
    c.show_body.ensures)

pub returns-else-show_lines : goal.returns-else-show_lines
returns-else-show_lines g c =
    header_ends mode_parameters_10 _ _ _ _ c.show_lines.ensures.verdict c.if-show_lines.false
    c.show_lines.ensures.text
