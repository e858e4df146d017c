use Rattle.sg_decode.specs.Lines.{lines_of}
use Rattle.sg_decode.specs.PersistentReservation.{capabilities_with}
use Rattle.sg_decode.proofs.DecoderLemmas.{header_ends, goes_on}
use Rattle.sg_decode.proofs.persistent_reservation.put_capabilities_with.Goals as goal

pub returns-then-show_lines : goal.returns-then-show_lines
returns-then-show_lines g c =
    goes_on (capabilities_with (lines_of c.args.lines.now)) _ _ _ _ _ c.show_lines.ensures.verdict
    c.if-show_lines.true c.show_lines.ensures.text (rw c.number_of_two.ensures.value at
    c.show_lines-then-show_lines.ensures.text)

pub returns-else-show_lines : goal.returns-else-show_lines
returns-else-show_lines g c =
    header_ends (capabilities_with (lines_of c.args.lines.now)) _ _ _ _ c.show_lines.ensures.verdict
    c.if-show_lines.false c.show_lines.ensures.text
