-- One more word in the sums of a checksum.
use Rattle.std.proofs.Common.{◌≡◌, ℕ, ◌+◌, ◌*◌, ◌%◌, List, [], ◌∷◌, ◌++◌, length, sum, ap}
use Rattle.std.proofs.Common.{◌∙◌, add-one, arith}
use Rattle.std.proofs.lemmas.List.{length_push}
use Rattle.std.proofs.lemmas.List.Sums.{sum_by-append, sum_by-cons}
use Rattle.std.proofs.Math.Nat.{add-mod-mod, mod-add-mod, mul-suc}
use Rattle.sg_journal.specs.Layout.{sum_of_sums}

more : (x n : ℕ) → x * (n + 1) ≡ x * n + x
more x n = rw add-one (mul-suc x n)

pub sum_push : (xs : List ℕ) (y : ℕ) → sum (xs ++ y ∷ []) ≡ sum xs + y
sum_push xs y = omega (arith, sum_by-append (λ (n : ℕ). n) xs (y ∷ []))

pub sums_push : (xs : List ℕ) (y : ℕ) → sum_of_sums (xs ++ y ∷ []) ≡ sum_of_sums xs + (sum xs + y)
sums_push [] y = omega arith
sums_push (x ∷ xs) y =
    let e = ap (λ (n : ℕ). x * (n + 1)) (length_push xs y) ∙ more x (length xs + 1) in
    omega (arith, e, sums_push xs y, sum_by-cons (λ (n : ℕ). n) x xs)

-- What is added to a rest may be added before the rest is taken.
pub sum_of_rests : (a b c m : ℕ) → (a % m + (b % m + c) % m) % m ≡ (a + (b + c)) % m
sum_of_rests a b c m =
    mod-add-mod a m ((b % m + c) % m)
    ∙ ap (λ (n : ℕ). (a + n) % m) (mod-add-mod b m c)
    ∙ add-mod-mod a (b + c) m
