use Rattle.std.proofs.Common.{◌≡◌, ◌<◌, length, get_or, sym, ap, ◌∙◌, rules, set}
use Rattle.std.proofs.lemmas.List.Edits.{map_over_more}
use Rattle.sg_faults.specs.Faults.{healed_slot}
use Rattle.sg_faults.proofs.faults.Faults.heal.Goals as goal

pub loop-number-preserved : goal.loop-number-preserved
loop-number-preserved c =
    let faults = c.loop-number.self in
    let n = c.loop-number.number in
    let slot = c.index-self-number.result in
    let here : n < length c.args.self.now = search rules in
    let is : get_or faults n slot ≡ slot =
    ap (λ xs. get_or xs n slot) (sym c.self-in-loop-number.view_is) ∙ sym c.index-self-number.is in
    let command = c.args.command.now in
    c.put.ensures
    ∙ (ap (set faults n)
    (c.healed_slot.ensures ∙ ap (healed_slot command) (sym c.index-self-number.is))
    ∙ map_over_more (healed_slot command) c.args.self.now faults n slot here c.loop-number.invariant
    (sym is))
