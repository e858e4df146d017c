use Rattle.sg_decode.proofs.ItemLemmas.{both_shown, first_shown}
use Rattle.sg_decode.proofs.supported_operations.show_usage_and_timeouts.Goals as goal

pub returns-then-show_usage : goal.returns-then-show_usage
returns-then-show_usage g c =
    both_shown _ _ _ _ _ _ _ _ c.show_usage.ensures.verdict c.if-show_usage.true
    c.show_usage.ensures.text c.show_entries.ensures

pub returns-else-show_usage : goal.returns-else-show_usage
returns-else-show_usage g c =
    first_shown _ _ _ _ _ _ _ c.show_usage.ensures.verdict c.if-show_usage.false
    c.show_usage.ensures.text
