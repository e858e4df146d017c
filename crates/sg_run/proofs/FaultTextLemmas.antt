-- Texts of numbers that count up, one after another.
use Rattle.std.proofs.Common.{◌≡◌, ℕ, ◌+◌, List, [], ◌∷◌, ◌++◌, ap, ◌∙◌, subst, sym}
use Rattle.std.proofs.Common.{append-nil, arith}
use Rattle.std.specs.List.{flat_map, range_with_len}
use Rattle.std.proofs.lemmas.Grind.{flat_map-append}
use Rattle.sg_store.proofs.DiskLemmas.{range-more}
use Rattle.sg_wire.specs.Printing.{Printing, Prints}
use Rattle.sg_wire.proofs.PrintingLemmas.{Prints-on}

text-more : (f : ℕ → List ℕ) (n : ℕ)
    → flat_map f (range_with_len 0 (n + 1)) ≡ flat_map f (range_with_len 0 n) ++ f n
text-more f n =
    let so_far : List ℕ = flat_map f (range_with_len 0 n) in
    let same : 0 + n ≡ n = omega arith in
    ap (flat_map f) (range-more 0 n ∙ ap (λ k. range_with_len 0 n ++ k ∷ []) same)
    ∙ flat_map-append f (range_with_len 0 n) (n ∷ []) ∙ ap (λ t. so_far ++ t) (append-nil (f n))

-- another spelling of a text is printed
pub Prints-same : {a b : Printing} {x y : List ℕ} → x ≡ y → Prints a b x → Prints a b y
Prints-same {a = a} {b = b} same p = let P : List ℕ → Type 0 = λ t. Prints a b t in subst P same p

-- the text of one more number is printed
pub Prints-number : (a b c : Printing) (f : ℕ → List ℕ) (n : ℕ)
    → Prints a b (flat_map f (range_with_len 0 n)) → Prints b c (f n)
    → Prints a c (flat_map f (range_with_len 0 (n + 1)))
Prints-number a b c f n so_far one =
    let P : List ℕ → Type 0 = λ t. Prints a c t in
    subst P (sym (text-more f n)) (Prints-on so_far one)
