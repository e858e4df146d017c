use Rattle.std.proofs.Common.{Bool, cond, [], ap, sym, ◌∙◌}
use Rattle.sg_faults.specs.Arming.{count_for}
use Rattle.sg_run.specs.FaultText.{count_text}
use Rattle.sg_run.proofs.FaultTextLemmas.{Prints-same}
use Rattle.sg_run.proofs.text.faults.put_left.Goals as goal

pub returns-then-is_listed : goal.returns-then-is_listed
returns-then-is_listed g c =
    let text = count_text c.args.number (count_for c.args.armed.now c.args.number) in
    Prints-same
    (ap (count_text c.args.number) c.count_for.ensures
    ∙ sym (ap (λ (listed : Bool). cond listed text []) (sym c.is_listed.ensures ∙ c.if-is_listed.true)))
    c.put_count.ensures
