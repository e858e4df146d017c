use Rattle.std.proofs.Common.{◌≡◌, ◌+◌, ◌==◌, ℕ, Some, Bool, false, sym, ◌∙◌, arith}
use Rattle.std.proofs.lemmas.Bool.Decides.{nat_tests}
use Rattle.sg_decode.specs.Items.{Item, item}
use Rattle.sg_decode.specs.Lines.{line_text}
use Rattle.sg_decode.specs.ModeParameters.{descriptor_line}
use Rattle.sg_decode.proofs.ItemLemmas.{none_shown, one_shown, one_ending}
use Rattle.sg_decode.proofs.mode_parameters.show_descriptor.Goals as goal

descriptor : ℕ → Bool → ℕ → Item
descriptor first long size = item first (first + size) (line_text (descriptor_line long size))

pub returns-then-size-eq0 : goal.returns-then-size-eq0
returns-then-size-eq0 g c =
    let s = none_shown (Some c.args.end) c.args.bytes.now _ in
    record { verdict = rw c.if-size-eq0.true s.1; text = rw c.if-size-eq0.true s.0 }

pub returns-then-not-is_shown : goal.returns-then-not-is_shown
unfolding descriptor
returns-then-not-is_shown g c =
    let some : (c.args.size == 0) ≡ false = grind (arith, nat_tests) in
    let s =
    one_ending (Some c.args.end) c.args.bytes.now (descriptor c.args.first c.args.long c.args.size)
    _ _ (sym c.is_shown.ensures.verdict ∙ c.if-not-is_shown.true) c.is_shown.ensures.text in
    record { verdict = rw some s.1; text = rw some s.0 }

pub returns : goal.returns
unfolding descriptor
returns g c =
    let some : (c.args.size == 0) ≡ false = grind (arith, nat_tests) in
    let s =
    one_shown (Some c.args.end) c.args.bytes.now (descriptor c.args.first c.args.long c.args.size) _
    _ _ (sym c.is_shown.ensures.verdict ∙ c.if-not-is_shown.false) c.is_shown.ensures.text
    (rw c.descriptor_line.ensures.line at c.put_line.ensures) in
    record { verdict = rw some s.1; text = rw some s.0 }
