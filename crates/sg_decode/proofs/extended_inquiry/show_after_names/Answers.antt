use Rattle.sg_decode.proofs.ItemLemmas.{both_shown, first_shown}
use Rattle.sg_decode.proofs.extended_inquiry.show_after_names.Goals as goal

pub returns-then-show_before_versions : goal.returns-then-show_before_versions
returns-then-show_before_versions g c =
    both_shown _ _ _ _ _ _ _ _ c.show_before_versions.ensures.verdict c.if-show_before_versions.true
    c.show_before_versions.ensures.text c.show_from_versions.ensures

pub returns-else-show_before_versions : goal.returns-else-show_before_versions
returns-else-show_before_versions g c =
    first_shown _ _ _ _ _ _ _ c.show_before_versions.ensures.verdict c.if-show_before_versions.false
    c.show_before_versions.ensures.text
