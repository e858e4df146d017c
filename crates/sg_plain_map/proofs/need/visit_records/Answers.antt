use Rattle.std.proofs.Common.{◌≡◌, ◌+◌, ◌-◌, ap, ◌∙◌, arith}
use Rattle.sg_table.specs.Table.{visited}
use Rattle.sg_table.proofs.TableLemmas.{visited-more}
use Rattle.sg_plain_map.proofs.need.visit_records.Goals as goal

pub loop-index-preserved : goal.loop-index-preserved
loop-index-preserved c =
    let t = c.args.table.now in
    let index = c.loop-index.index in
    let on : index - c.args.from + 1 ≡ index + 1 - c.args.from = omega arith in
    c.visit.ensures.table ∙ ap (λ t. visited t 1) c.loop-index.invariant
    ∙ visited-more t (index - c.args.from) 1 ∙ ap (visited t) on
