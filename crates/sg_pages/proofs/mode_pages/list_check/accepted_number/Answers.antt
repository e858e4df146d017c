use Rattle.std.proofs.Common.{◌∙◌, ap, sym}
use Rattle.std.specs.Prelude.{◌==◌, cond}
use Rattle.std.specs.List.{list_all}
use Rattle.sg_pages.proofs.FaultLemmas.{clipped}
use Rattle.sg_pages.proofs.mode_pages.list_check.accepted_number.Goals as goal

pub returns-then-are_zeros : goal.returns-then-are_zeros
returns-then-are_zeros c =
    let sent = clipped c.min.result c.args.count c.args.offset c.args.list.now c.min.ensures in
    let zeros = sym c.if-are_zeros.true
    ∙ (c.are_zeros.ensures ∙ ap (list_all (λ byte. byte == 0)) sent) in
    ap (λ b. cond b 0 c.args.blocks) zeros

pub returns-else-are_zeros : goal.returns-else-are_zeros
returns-else-are_zeros c =
    let sent = clipped c.min.result c.args.count c.args.offset c.args.list.now c.min.ensures in
    let zeros = sym c.if-are_zeros.false
    ∙ (c.are_zeros.ensures ∙ ap (list_all (λ byte. byte == 0)) sent) in
    ap (λ b. cond b 0 c.args.blocks) zeros
