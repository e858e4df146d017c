use Rattle.std.proofs.Common.{rules, refl, ◌∙◌, sym}
use Rattle.sg_wire.proofs.OutListLemmas.{short}
use Rattle.sg_wire.proofs.out_list.others.Goals as goal
use Rattle.sg_wire.proofs.out_list.others.Goals.{else-spec_i_pt-via-else-spec_i_pt}
use Rattle.sg_wire.proofs.out_list.others.Goals.{else-spec_i_pt-via-then-spec_i_pt+else-bytes-start}

pub returns-then-bytes-start : goal.returns-then-bytes-start
returns-then-bytes-start c =
    rw c.if-spec_i_pt.true c.ids_from.ensures

pub returns-else-spec_i_pt : goal.returns-else-spec_i_pt
returns-else-spec_i_pt c =
    c.new.ensures ∙ elim c.else-spec_i_pt.branch [
      | else-spec_i_pt-via-then-spec_i_pt+else-bytes-start w ↦
          rw w.if-spec_i_pt.true (sym (short c.args.bytes.now (search rules)))
      | else-spec_i_pt-via-else-spec_i_pt w ↦ rw w.if-spec_i_pt.false refl
    ]
