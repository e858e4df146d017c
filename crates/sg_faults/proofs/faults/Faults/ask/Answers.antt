use Rattle.std.proofs.Common.{◌≡◌, ◌<◌, length, None, get_or, sym, ap, ◌∙◌, rules, set, true}
use Rattle.std.specs.Prelude.{is_some}
use Rattle.std.proofs.lemmas.List.{get_or_default}
use Rattle.sg_faults.specs.Faults.{after_asking, struck_in}
use Rattle.sg_faults.proofs.AskingLemmas.{asked-here}
use Rattle.sg_faults.proofs.faults.Faults.ask.Goals as goal

pub returns-then-is_some-clause-faults : goal.returns-then-is_some-clause-faults
returns-then-is_some-clause-faults g c =
    let at = g.P.Place.at in
    let command = c.args.command.now in
    let faults = c.loop-number.self in
    let n = c.loop-number.number in
    let here : n < length faults = search rules in
    let struck : is_some c.struck_in-struck.result ≡ true = search rules in
    let seen = sym c.self-in-loop-number.view_is in
    let due : is_some (struck_in at command (get_or faults n None)) ≡ true =
    ap (λ slot. is_some (struck_in at command slot))
    (get_or_default faults n None c.index-self-number.result here
    ∙ ap (λ xs. get_or xs n c.index-self-number.result) seen)
    ∙ (sym (ap is_some c.struck_in-struck.ensures) ∙ struck) in
    let left : c.after_asking-left.result ≡ after_asking at command (get_or faults n None) =
    c.after_asking-left.ensures
    ∙ ap (after_asking at command)
    (sym (get_or_default faults n None c.index-self-number-in-loop-number.result here
    ∙ ap (λ xs. get_or xs n c.index-self-number-in-loop-number.result) seen)) in
    c.put.ensures
    ∙ (ap (set faults n) left
    ∙ asked-here at command c.args.self.now faults n here c.loop-number.invariant.rest due
    c.loop-number.invariant.faults)
