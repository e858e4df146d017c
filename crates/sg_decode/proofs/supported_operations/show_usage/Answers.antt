use Rattle.std.proofs.Common.{◌≡◌, ◌+◌, ◌==◌, ℕ, Some, false, sym, ◌∙◌, arith}
use Rattle.std.proofs.lemmas.Bool.Decides.{nat_tests}
use Rattle.sg_decode.specs.Items.{Item, item}
use Rattle.sg_decode.specs.Lines.{line_text}
use Rattle.sg_decode.specs.SupportedOperations.{usage_line}
use Rattle.sg_decode.proofs.ItemLemmas.{none_shown, one_shown, one_ending}
use Rattle.sg_decode.proofs.supported_operations.show_usage.Goals as goal

usage : ℕ → Item
usage size = item 4 (4 + size) (line_text usage_line)

pub returns-then-size-eq0 : goal.returns-then-size-eq0
returns-then-size-eq0 g c =
    let s = none_shown (Some c.args.end) c.args.bytes.now _ in
    record { verdict = rw c.if-size-eq0.true s.1; text = rw c.if-size-eq0.true s.0 }

pub returns-then-not-is_shown : goal.returns-then-not-is_shown
unfolding usage
returns-then-not-is_shown g c =
    let some : (c.args.size == 0) ≡ false = grind (arith, nat_tests) in
    let s =
    one_ending (Some c.args.end) c.args.bytes.now (usage c.args.size) _ _
    (sym c.is_shown.ensures.verdict ∙ c.if-not-is_shown.true) c.is_shown.ensures.text in
    record { verdict = rw some s.1; text = rw some s.0 }

pub returns : goal.returns
unfolding usage
returns g c =
    let some : (c.args.size == 0) ≡ false = grind (arith, nat_tests) in
    let s =
    one_shown (Some c.args.end) c.args.bytes.now (usage c.args.size) _ _ _
    (sym c.is_shown.ensures.verdict ∙ c.if-not-is_shown.false) c.is_shown.ensures.text
    c.put_line.ensures in
    record { verdict = rw some s.1; text = rw some s.0 }
