use Rattle.std.proofs.Common.{rules, ap, ◌∙◌}
use Rattle.sg_wire.specs.TransportId.{named_by}
use Rattle.sg_wire.proofs.TransportIdLemmas.{names}
use Rattle.sg_wire.proofs.transport_ids.transport_id.Goals as goal

pub returns-clause-bytes : goal.returns-clause-bytes
returns-clause-bytes c = search rules

pub returns-clause-reads_back : goal.returns-clause-reads_back
returns-clause-reads_back c =
    ap named_by (returns-clause-bytes c) ∙ names c.args.initiator (search rules)
