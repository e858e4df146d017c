use Rattle.sg_decode.specs.LbaStatus.{lba_status}
use Rattle.sg_decode.proofs.DecoderLemmas.{header_ends, goes_on}
use Rattle.sg_decode.proofs.lba_status.put_lba_status.Goals as goal

pub returns-then-show_length : goal.returns-then-show_length
returns-then-show_length g c =
    goes_on (lba_status c.args.brief) _ _ _ _ _ c.show_length.ensures.verdict c.if-show_length.true
    c.show_length.ensures.text (rw c.number_of_four-end.ensures.value at c.show_entries.ensures)

pub returns-else-show_length : goal.returns-else-show_length
returns-else-show_length g c =
    header_ends (lba_status c.args.brief) _ _ _ _ c.show_length.ensures.verdict
    c.if-show_length.false c.show_length.ensures.text
