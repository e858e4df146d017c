use Rattle.sg_decode.proofs.ItemLemmas.{both_shown, first_shown}
use Rattle.sg_decode.proofs.mode_parameters.show_body.Goals as goal

pub returns-then-show_descriptor : goal.returns-then-show_descriptor
returns-then-show_descriptor g c =
    both_shown _ _ _ _ _ _ _ _ c.show_descriptor.ensures.verdict c.if-show_descriptor.true
    c.show_descriptor.ensures.text c.show_entries.ensures

pub returns-else-show_descriptor : goal.returns-else-show_descriptor
returns-else-show_descriptor g c =
    first_shown _ _ _ _ _ _ _ c.show_descriptor.ensures.verdict c.if-show_descriptor.false
    c.show_descriptor.ensures.text
