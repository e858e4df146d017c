use Rattle.std.proofs.Common.{ap, ◌∙◌, rules, sym, length}
use Rattle.std.specs.Prelude.{min}
use Rattle.sg_wire.specs.Initiator.{initiator_count}
use Rattle.sg_wire.proofs.TransportIdLemmas.{named-count}
use Rattle.sg_wire.proofs.transport_ids.TransportIds.len.Goals as goal

pub returns-clause-value : goal.returns-clause-value
returns-clause-value c =
    c.min.ensures ∙ ap (λ n. min n initiator_count) c.div_ceil-count.ensures
    ∙ sym (named-count c.self.inside.bytes.now) ∙ ap length c.self.view_is

pub returns-clause-at_most : goal.returns-clause-at_most
returns-clause-at_most c = search rules
