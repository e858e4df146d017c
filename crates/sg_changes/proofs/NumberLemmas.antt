-- The bytes of a number are the only ones that read as the number.
use Rattle.std.proofs.Common.{◌≡◌, ℕ, zero, suc, ◌+◌, ◌*◌, ◌^◌, ◌/◌, ◌<◌, ◌≤◌, List, [], ◌∷◌}
use Rattle.std.proofs.Common.{inl, inr, length, take, refl, sym, ap, ◌∙◌, arith}
use Rattle.std.specs.Int.{byte_at}
use Rattle.std.proofs.lemmas.List.{append-nil, get_or-take, get_or_past, length-take, length-take-le}
use Rattle.std.proofs.lemmas.Bool.{cases_lt}
use Rattle.std.proofs.lemmas.Nat.{div-mul-add}
use Rattle.std.proofs.Math.Nat.{mod-eq_of_lt, mod-lt}
use Rattle.byteorder.specs.Endian.{big_bytes, big_number}
use Rattle.byteorder.specs.Numbers.{big_from-bytes, big_from-cons, big_from-lt, big_from-take}
use Rattle.byteorder.specs.Numbers.{length-bytes_high_first}
use Rattle.sg_changes.specs.Format.{AreBytes}

pub rest_are_bytes : (byte : ℕ) (bytes : List ℕ) → AreBytes (byte ∷ bytes) → AreBytes bytes
rest_are_bytes byte bytes are i = are (suc i)

pub first_are_bytes : (n : ℕ) (bytes : List ℕ) → AreBytes bytes → AreBytes (take n bytes)
first_are_bytes n bytes are i = elim (cases_lt i n) [
  | inl lt ↦ rw (get_or-take n bytes i 0 lt) (are i)
  | inr le ↦ rw (get_or_past (take n bytes) i 0 (omega (arith, length-take n bytes))) (omega arith)
]

byte-lt : (k x : ℕ) → byte_at k x < 256
byte-lt zero x = mod-lt x (omega arith)
byte-lt (suc k) x = mod-lt (x / 256 ^ suc k) (omega arith)

number_bytes : (size x : ℕ) → AreBytes (big_bytes size x)
number_bytes zero x i = omega arith
number_bytes (suc size) x zero = byte-lt size x
number_bytes (suc size) x (suc i) = number_bytes size x i

same_number : (size : ℕ) (xs ys : List ℕ) → length xs ≡ size → length ys ≡ size → AreBytes xs → AreBytes ys
    → big_number size xs ≡ big_number size ys → xs ≡ ys
same_number zero [] [] a b are also e = refl
same_number zero (x ∷ xs) ys a b are also e = absurd (omega arith)
same_number zero [] (y ∷ ys) a b are also e = absurd (omega arith)
same_number (suc size) [] ys a b are also e = absurd (omega arith)
same_number (suc size) (x ∷ xs) [] a b are also e = absurd (omega arith)
same_number (suc size) (x ∷ xs) (y ∷ ys) a b are also e =
    let low : big_number size xs < 256 ^ size = big_from-lt 0 size xs (rest_are_bytes x xs are) in
    let low2 : big_number size ys < 256 ^ size = big_from-lt 0 size ys (rest_are_bytes y ys also) in
    let parts : x * 256 ^ size + big_number size xs ≡ y * 256 ^ size + big_number size ys =
    ap (λ r. x * 256 ^ size + r) (sym (big_from-cons 0 size x xs)) ∙ e
    ∙ ap (λ r. y * 256 ^ size + r) (big_from-cons 0 size y ys) in
    let high : x ≡ y =
    sym (div-mul-add x (256 ^ size) (big_number size xs) low) ∙ ap (λ n. n / 256 ^ size) parts
    ∙ div-mul-add y (256 ^ size) (big_number size ys) low2 in
    let rest : big_number size xs ≡ big_number size ys = omega
    (arith, parts, ap (λ n. n * 256 ^ size) high) in
    ap (λ b. b ∷ xs) high
    ∙ ap (λ bs. y ∷ bs) (same_number size xs ys (omega arith) (omega arith) (rest_are_bytes x xs are)
    (rest_are_bytes y ys also) rest)

pub spelled_number : (size : ℕ) (bytes : List ℕ) → AreBytes bytes → size ≤ length bytes
    → take size bytes ≡ big_bytes size (big_number size bytes)
spelled_number size bytes are within =
    let n : ℕ = big_number size bytes in
    let read : big_number size (big_bytes size n) ≡ n =
    ap (big_number size) (sym (append-nil (big_bytes size n))) ∙ big_from-bytes size n []
    ∙ mod-eq_of_lt (big_from-lt 0 size bytes are) in
    same_number size (take size bytes) (big_bytes size n) (omega (arith, length-take-le size bytes))
    (length-bytes_high_first size n) (first_are_bytes size bytes are) (number_bytes size n)
    (big_from-take 0 size size bytes (omega arith) ∙ sym read)
