use Rattle.std.proofs.Common.{◌≡◌, ◌≤◌, ◌<◌, ◌*◌, ◌+◌, ◌^◌, length, arith, sym, ◌∙◌}
use Rattle.std.proofs.lemmas.Bool.Decides.{nat_tests}
use Rattle.sg_tools.proofs.NumberLemmas.{no_number, no_digits, next_digit, not_digit, overflows, all_digits}
use Rattle.sg_tools.proofs.number.read_digits.Goals as goal

pub returns-then-is_empty : goal.returns-then-is_empty
returns-then-is_empty c = sym (no_number c.args.radix c.args.digits.now (grind (arith, nat_tests)))

pub loop-byte-init : goal.loop-byte-init
loop-byte-init c = record { so_far = no_digits c.args.radix c.args.digits.now; small = omega arith }

pub returns-then-digit-radix : goal.returns-then-digit-radix
returns-then-digit-radix c =
    let i = c.loop-byte.invariant in
    sym (not_digit c.args.radix c.args.digits.now c.loop-byte.byte-index c.loop-byte.number
    c.from-digit.result c.requires.at_most_16 c.loop-byte-test.true
    (c.from-digit.ensures ∙ c.digit_value.ensures) c.if-digit-radix.true i.so_far)

pub returns-in_err-checked_mul : goal.returns-in_err-checked_mul
returns-in_err-checked_mul c =
    let i = c.loop-byte.invariant in
    let large : 2 ^ 64 ≤ c.loop-byte.number * c.args.radix + c.from-digit.result =
    omega (arith, c.in_err-checked_mul.ensures) in
    c.from_residual.ensures
    ∙ sym (overflows c.args.radix c.args.digits.now c.loop-byte.byte-index c.loop-byte.number
    c.from-digit.result c.requires.at_least_1 c.requires.at_most_16 c.loop-byte-test.true
    (c.from-digit.ensures ∙ c.digit_value.ensures) c.if-digit-radix.false large i.so_far)

pub returns-in_err-number : goal.returns-in_err-number
returns-in_err-number c =
    let i = c.loop-byte.invariant in
    let large : 2 ^ 64 ≤ c.loop-byte.number * c.args.radix + c.from-digit.result =
    omega (arith, c.in_ok-checked_mul.ensures, c.in_err-number.ensures) in
    c.from_residual-in_err-number.ensures
    ∙ sym (overflows c.args.radix c.args.digits.now c.loop-byte.byte-index c.loop-byte.number
    c.from-digit.result c.requires.at_least_1 c.requires.at_most_16 c.loop-byte-test.true
    (c.from-digit.ensures ∙ c.digit_value.ensures) c.if-digit-radix.false large i.so_far)

pub loop-byte-preserved : goal.loop-byte-preserved
loop-byte-preserved c =
    let i = c.loop-byte.invariant in
    let is : c.in_ok-number.number ≡ c.loop-byte.number * c.args.radix + c.from-digit.result =
    omega (arith, c.in_ok-checked_mul.ensures, c.in_ok-number.ensures) in
    record {
      so_far = next_digit c.args.radix c.args.digits.now c.loop-byte.byte-index c.loop-byte.number
          c.from-digit.result c.in_ok-number.number c.requires.at_most_16 c.loop-byte-test.true
          (c.from-digit.ensures ∙ c.digit_value.ensures) c.if-digit-radix.false is i.so_far;
      small = omega (arith, c.in_ok-number.ensures);
    }

pub returns : goal.returns
returns c =
    let i = c.loop-byte.invariant in
    let some : 0 < length c.args.digits.now = grind (arith, nat_tests) in
    sym (all_digits c.args.radix c.args.digits.now c.loop-byte.byte-index c.loop-byte.number some
    (omega arith) i.small i.so_far)
