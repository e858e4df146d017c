-- Digits as numbers.
use Rattle.std.proofs.Common.{◌≡◌, ◌<◌, ◌≤◌, ℕ, ◌^◌, ◌+◌, ◌*◌, List, [], ◌∷◌, length, drop, Bool}
use Rattle.std.proofs.Common.{true, false, cond, Option, Some, None, refl, sym, ap, ◌∙◌, arith}
use Rattle.std.specs.Prelude.{◌&&◌, nat_le, nat_lt, slice_index, if◌then◌else◌}
use Rattle.std.specs.Char.{digit_value, is_digit}
use Rattle.std.specs.List.{list_all}
use Rattle.std.specs.Str.Parse.{AllDigits, IsNumeral, digits_value, digits_value_after}
use Rattle.std.proofs.lemmas.Bool.{and_from, and_parts, cond-false, false_from_ne_true}
use Rattle.std.proofs.lemmas.Bool.{lt-ltb, ltb-true}
use Rattle.std.proofs.lemmas.Bool.Decides.{nat_tests}
use Rattle.std.proofs.lemmas.List.{drop_all, drop_more}
use Rattle.std.proofs.lemmas.Option.{cond_some}
use Rattle.std.proofs.Math.Nat.{mul-le-mul_left}
use Rattle.sg_tools.specs.HexDigits.{digit_or_none}
use Rattle.sg_tools.specs.Number.{has_0x, is_numeral, number_in}
use Rattle.sg_tools.specs.OptionTexts.{hex_digits_up_to}

all-digits : (radix : ℕ) (digits : List ℕ) → list_all (λ digit. is_digit digit radix) digits ≡ true
    → AllDigits radix digits
all-digits radix [] h = tt
all-digits radix (c ∷ cs) h =
    let b = and_parts (is_digit c radix) (list_all (λ digit. is_digit digit radix) cs) h in
    (ltb-true (digit_value c) radix b.0, all-digits radix cs b.1)

all-true : (radix : ℕ) (digits : List ℕ) → AllDigits radix digits
    → list_all (λ digit. is_digit digit radix) digits ≡ true
all-true radix [] h = refl
all-true radix (c ∷ cs) h = and_from (is_digit c radix) _ (lt-ltb (digit_value c) radix h.0)
    (all-true radix cs h.1)

-- the test is the standard library's notion of a number in digits that fits
fits : ℕ → List ℕ → Bool
fits radix digits = is_numeral radix digits && nat_lt (digits_value radix digits) (2 ^ 64)

fits-true : (radix : ℕ) (digits : List ℕ) → IsNumeral radix digits
    × (digits_value radix digits < 2 ^ 64) → fits radix digits ≡ true
unfolding fits
fits-true radix digits h =
    and_from (is_numeral radix digits) _
    (and_from (nat_lt 0 (length digits)) _ (lt-ltb 0 (length digits) h.0.0)
    (all-true radix digits h.0.1))
    (lt-ltb (digits_value radix digits) (2 ^ 64) h.1)

true-fits : (radix : ℕ) (digits : List ℕ) → fits radix digits ≡ true → IsNumeral radix digits
    × (digits_value radix digits < 2 ^ 64)
unfolding fits
true-fits radix digits h =
    let a = and_parts (is_numeral radix digits) (nat_lt (digits_value radix digits) (2 ^ 64)) h in
    let b = and_parts (nat_lt 0 (length digits)) (list_all (λ digit. is_digit digit radix) digits)
    a.0 in (
      (ltb-true 0 (length digits) b.0, all-digits radix digits b.1),
      ltb-true
          (digits_value radix digits) (2 ^ 64) a.1,
    )

number-fits : (radix : ℕ) (digits : List ℕ) → IsNumeral radix digits
    × (digits_value radix digits < 2 ^ 64) → number_in radix digits ≡
    Some (digits_value radix digits)
unfolding number_in fits
number-fits radix digits h = ap (λ b. cond {A = Option ℕ} b (Some (digits_value radix digits)) None)
    (fits-true radix digits h)

number-none : (radix : ℕ) (digits : List ℕ)
    → (IsNumeral radix digits × (digits_value radix digits < 2 ^ 64) → ⊥) → number_in radix digits ≡
    None
unfolding number_in fits
number-none radix digits h = cond-false (fits radix digits) (Some (digits_value radix digits)) None
    (false_from_ne_true (fits radix digits) (λ e. h (true-fits radix digits e)))

-- ---- digits, one after the other

-- the value of a digit of a radix up to 16
digit-same : (c radix : ℕ) → radix ≤ 16 → digit_or_none c < radix → digit_value c ≡ digit_or_none c
digit-same c radix most below = grind (arith, nat_tests)

digit-none : (c radix : ℕ) → radix ≤ 16 → radix ≤ digit_or_none c → digit_value c < radix → ⊥
digit-none c radix most above below = grind (arith, nat_tests)

-- digits that follow only make a number larger
value-grows : (radix number : ℕ) (digits : List ℕ) → 1 ≤ radix
    → number ≤ digits_value_after radix number digits
value-grows radix number [] some = omega arith
value-grows radix number (c ∷ cs) some =
    let more = value-grows radix (number * radix + digit_value c) cs some in
    let times : number * 1 ≤ number * radix = mul-le-mul_left number some in
    omega arith

-- the facts after the first digits, whose value is a number
pub record ReadsDigits (radix : ℕ) (digits : List ℕ) (count number : ℕ) : Type 0 where
  pub others : AllDigits radix (drop count digits) → AllDigits radix digits
  pub among : AllDigits radix digits → AllDigits radix (drop count digits)
  pub value : digits_value_after radix number (drop count digits) ≡ digits_value radix digits

pub no_digits : (radix : ℕ) (digits : List ℕ) → ReadsDigits radix digits 0 0
no_digits radix digits = record { others = λ h. h; among = λ h. h; value = refl }

-- one more digit, which has this value
pub next_digit : (radix : ℕ) (digits : List ℕ) (count number digit after : ℕ) → radix ≤ 16
    → count < length digits → digit ≡ digit_or_none (slice_index digits count) → digit < radix
    → after ≡ number * radix + digit → ReadsDigits radix digits count number
    → ReadsDigits radix digits (count + 1) after
next_digit radix digits count number digit after most within e below is so_far =
    let c : ℕ = slice_index digits count in
    let at : drop count digits ≡ c ∷ drop (count + 1) digits = drop_more digits count 0 within in
    let small : digit_or_none c < radix = omega (arith, e, below) in
    let same : digit_value c ≡ digit_or_none c = digit-same c radix most small in
    let fits : digit_value c < radix = omega (arith, same, small) in
    let next : number * radix + digit_value c ≡ after = rw (same, is, e) refl in
    record {
      others = λ h. so_far.others (rw at (fits, h));
      among = λ h. let all : AllDigits radix (c ∷ drop (count + 1) digits) =
          rw at at (so_far.among h) in all.1;
      value = ap (λ n. digits_value_after radix n (drop (count + 1) digits)) (sym next)
          ∙ (ap (digits_value_after radix number) (sym at) ∙ so_far.value);
    }

-- a byte that is no digit of the radix
pub not_digit : (radix : ℕ) (digits : List ℕ) (count number digit : ℕ) → radix ≤ 16
    → count < length digits → digit ≡ digit_or_none (slice_index digits count) → radix ≤ digit
    → ReadsDigits radix digits count number → number_in radix digits ≡ None
not_digit radix digits count number digit most within e above so_far =
    let c : ℕ = slice_index digits count in
    let at : drop count digits ≡ c ∷ drop (count + 1) digits = drop_more digits count 0 within in
    let large : radix ≤ digit_or_none c = omega (arith, e, above) in
    number-none radix digits (λ h.
    let all : AllDigits radix (c ∷ drop (count + 1) digits) = rw at at (so_far.among h.0.1) in
    digit-none c radix most large all.0)

-- a number of more than 64 bits
too_large : (radix : ℕ) (digits : List ℕ) (count number : ℕ) → 1 ≤ radix → 2 ^ 64 ≤ number
    → ReadsDigits radix digits count number → number_in radix digits ≡ None
too_large radix digits count number some large so_far =
    let more = value-grows radix number (drop count digits) some in
    number-none radix digits (λ h. absurd (omega (arith, more, so_far.value, h.1)))

-- one more digit makes the number larger than 64 bits
pub overflows : (radix : ℕ) (digits : List ℕ) (count number digit : ℕ) → 1 ≤ radix → radix ≤ 16
    → count < length digits → digit ≡ digit_or_none (slice_index digits count) → digit < radix
    → 2 ^ 64 ≤ number * radix + digit → ReadsDigits radix digits count number → number_in radix digits ≡ None
overflows radix digits count number digit some most within e below large so_far =
    too_large radix digits (count + 1) (number * radix + digit) some large
    (next_digit radix digits count number digit (number * radix + digit) most within e below
    refl so_far)

-- all digits
pub all_digits : (radix : ℕ) (digits : List ℕ) (count number : ℕ) → 0 < length digits
    → length digits ≤ count → number < 2 ^ 64
    → ReadsDigits radix digits count number → number_in radix digits ≡ Some number
all_digits radix digits count number some all small so_far =
    let none : drop count digits ≡ [] = drop_all count digits all in
    let value : number ≡ digits_value radix digits = rw none at so_far.value in
    let each : AllDigits radix digits = so_far.others (rw none tt) in
    number-fits radix digits ((some, each), omega (arith, value, small)) ∙ ap Some (sym value)

pub no_number : (radix : ℕ) (digits : List ℕ) → length digits ≡ 0 → number_in radix digits ≡ None
no_number radix digits none = number-none radix digits (λ h. absurd (omega (arith, none, h.0.0)))

-- ---- one hexadecimal digit

one_digit_of : (digits : List ℕ) (n : ℕ) → length digits ≤ 1 → number_in 16 digits ≡ Some n → n < 16
unfolding number_in fits
one_digit_of [] n few e = absurd cc
one_digit_of (c ∷ []) n few e =
    let is = cond_some (fits 16 (c ∷ [])) (digits_value 16 (c ∷ [])) n e in
    let digit = (true-fits 16 (c ∷ []) is.0).0.1.0 in
    omega (arith, digit, is.1)
one_digit_of (c ∷ d ∷ cs) n few e = absurd (omega arith)

digits_by : (b : Bool) (digits : List ℕ) (n : ℕ) → nat_le (length digits) 1 ≡ b
    → cond b (number_in 16 digits) None ≡ Some n → n < 16
digits_by true digits n test e = let few : length digits ≤ 1 = grind (arith, nat_tests) in
    one_digit_of digits n few e
digits_by false digits n test e = absurd cc

pub one_digit : (text : List ℕ) (n : ℕ) → hex_digits_up_to 1 text ≡ Some n → n < 16
unfolding hex_digits_up_to
one_digit text n e = digits_by (nat_le (length (if has_0x text then drop 2 text else text)) 1)
    (if has_0x text then drop 2 text else text) n refl e
