use Rattle.std.proofs.Common.{rules, ap, ◌∙◌}
use Rattle.sg_wire.specs.OutList.{out_list}
use Rattle.sg_wire.proofs.OutListLemmas.{reads_back-out_list}
use Rattle.sg_wire.proofs.out_list.OutList.write.Goals as goal

pub returns-clause-bytes : goal.returns-clause-bytes
returns-clause-bytes c = search rules

pub returns-clause-reads_back : goal.returns-clause-reads_back
returns-clause-reads_back c =
    ap out_list (returns-clause-bytes c)
    ∙ reads_back-out_list c.args.self.now c.list_bytes.ensures.key c.list_bytes.ensures.action_key
