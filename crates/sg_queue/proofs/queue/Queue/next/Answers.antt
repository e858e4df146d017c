use Rattle.std.proofs.Common.{Option, ◌++◌, drop, ap, option_to_list, refl, sym, ◌∙◌}
use Rattle.sg_queue.proofs.WaitingLemmas.{none}
use Rattle.sg_queue.specs.declared.call.QueuedCall.{QueuedCall}
use Rattle.sg_queue.proofs.queue.Queue.next.Goals as goal

pub returns-in_default : goal.returns-in_default
returns-in_default c =
    let after = drop 1 c.self.inside.calls.items in
    let is = c.oldest.ensures ∙ ap (λ (r : Option QueuedCall). option_to_list r ++ after) c.in_default.is in
    let no_call = sym c.self.view_is ∙ none _ _ is in
    (no_call, no_call, refl)
