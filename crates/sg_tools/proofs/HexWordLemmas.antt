-- Hexadecimal digits that are read two at a time.
use Rattle.std.proofs.Common.{◌≡◌, ◌<◌, ◌≤◌, ℕ, ◌+◌, ◌*◌, ◌%◌, List, length, take, drop}
use Rattle.std.proofs.Common.{slice_index, slice_set, Bool, true, false, cond, Option, Some, None}
use Rattle.std.proofs.Common.{Ok, Err, refl, ap, ◌∙◌, arith}
use Rattle.std.specs.Prelude.{◌&&◌, nat_lt, unwrap_or}
use Rattle.std.specs.Result.{result_ok}
use Rattle.std.proofs.lemmas.Bool.{lt-ltb}
use Rattle.hex.specs.Hex.{decode_of, decode_pairs, digit_or_error, hex_digit_value, pair_value, value_at}
use Rattle.hex.specs.declared.error.FromHexError.TheVariants.{InvalidHexCharacter}
use Rattle.hex.proofs.Pairs.{prepend, decode_start, decode_step, decode_err, decode_done}
use Rattle.hex.proofs.HexLemmas.{decode_of-even}
use Rattle.sg_tools.specs.HexDigits.{no_digit, digit_or_none}

-- the facts after the first pairs: the bytes so far, or a byte that is no digit
abbrev pub ReadsPairs : (are_digits : Bool) → (digits bytes : List ℕ) → (count : ℕ) → Type 0
ReadsPairs true digits bytes count =
    decode_pairs 0 digits ≡ prepend (take count bytes) (decode_pairs (2 * count) (drop (2 * count) digits))
ReadsPairs false digits bytes count = result_ok (decode_pairs 0 digits) ≡ None

digit-small : (c v : ℕ) → hex_digit_value c ≡ Some v → v < 16
digit-small c v h = grind (arith)

value_at-some : (c i v : ℕ) → hex_digit_value c ≡ Some v → value_at c i ≡ Ok v
value_at-some c i v h = ap (digit_or_error c i) h

value_at-none : (c i : ℕ) → hex_digit_value c ≡ None → value_at c i ≡ Err (InvalidHexCharacter c i)
value_at-none c i h = ap (digit_or_error c i) h

pair-read : (c d i h l : ℕ) → hex_digit_value c ≡ Some h → hex_digit_value d ≡ Some l
    → pair_value c d i ≡ Ok (h * 16 + l)
pair-read c d i h l e f = rw (value_at-some c i h e, value_at-some d (i + 1) l f) refl

pair-no_first : (c d i : ℕ) → hex_digit_value c ≡ None → pair_value c d i ≡ Err (InvalidHexCharacter c i)
pair-no_first c d i e = rw (value_at-none c i e) refl

pair-no_second : (c d i h : ℕ) → hex_digit_value c ≡ Some h → hex_digit_value d ≡ None
    → pair_value c d i ≡ Err (InvalidHexCharacter d (i + 1))
pair-no_second c d i h e f = rw (value_at-some c i h e, value_at-none d (i + 1) f) refl

-- the byte of two digits, as it is computed
abbrev byte_of : ℕ → ℕ → ℕ
byte_of high low = (high * 16 % 256 + low) % 256

next_by : (o p : Option ℕ) (s out : List ℕ) (i : ℕ) → hex_digit_value (slice_index s (2 * i)) ≡ o
    → hex_digit_value (slice_index s (2 * i + 1)) ≡ p
    → 2 * i + 1 < length s → i < length out → ReadsPairs true s out i
    → ReadsPairs (nat_lt (unwrap_or o no_digit) 16 && nat_lt (unwrap_or p no_digit) 16) s
    (slice_set out i (byte_of (unwrap_or o no_digit) (unwrap_or p no_digit))) (i + 1)
next_by (Some h) (Some l) s out i e f fits room so_far =
    let high : h < 16 = digit-small (slice_index s (2 * i)) h e in
    let low : l < 16 = digit-small (slice_index s (2 * i + 1)) l f in
    let byte : h * 16 + l ≡ byte_of h l = omega arith in
    rw (lt-ltb h 16 high, lt-ltb l 16 low)
    (decode_step s out i (byte_of h l) fits room
    (pair-read (slice_index s (2 * i)) (slice_index s (2 * i + 1)) (2 * i) h l e f ∙ ap Ok byte)
    so_far)
next_by (Some h) None s out i e f fits room so_far =
    rw (lt-ltb h 16 (digit-small (slice_index s (2 * i)) h e))
    (ap result_ok
    (decode_err s out i _ fits
    (pair-no_second (slice_index s (2 * i)) (slice_index s (2 * i + 1)) (2 * i) h e f) so_far))
next_by None p s out i e f fits room so_far =
    ap result_ok
    (decode_err s out i _ fits (pair-no_first (slice_index s (2 * i)) (slice_index s (2 * i + 1))
    (2 * i) e) so_far)

-- one more pair is read
pub next_pair : (are_digits : Bool) (s out : List ℕ) (i high low byte : ℕ) → 2 * i + 1 < length s
    → i < length out
    → high ≡ digit_or_none (slice_index s (2 * i)) → low ≡ digit_or_none (slice_index s (2 * i + 1))
    → byte ≡ (high * 16 % 256 + low) % 256
    → ReadsPairs are_digits s out i
    → ReadsPairs ((are_digits && nat_lt high 16) && nat_lt low 16) s (slice_set out i byte)
    (i + 1)
next_pair true s out i high low byte fits room e f g so_far =
    rw (g, e, f) (next_by _ _ s out i refl refl fits room so_far)
next_pair false s out i high low byte fits room e f g so_far = so_far

pub no_pair : (s out : List ℕ) → ReadsPairs true s out 0
no_pair s out = decode_start s out

-- every pair is read
pub all_pairs : (are_digits : Bool) (s out : List ℕ) (i : ℕ) → length out ≤ i → length s ≡
    2 * length out → ReadsPairs are_digits s out i
    → result_ok (decode_of s) ≡ cond are_digits (Some out) None
all_pairs true s out i all long so_far =
    ap result_ok (decode_of-even s (omega arith) ∙ decode_done s out i all (omega arith) so_far)
all_pairs false s out i all long so_far = ap result_ok (decode_of-even s (omega arith)) ∙ so_far
