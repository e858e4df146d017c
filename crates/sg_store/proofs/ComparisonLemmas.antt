-- Where bytes differ from others first.
use Rattle.std.proofs.Common.{◌≡◌, ℕ, ◌+◌, List, [], ◌∷◌, length, Bool, true, false, cond, not, ◌==◌}
use Rattle.std.proofs.Common.{Option, Some, None, ap, ap₂, sym, refl, ◌∙◌, arith}
use Rattle.std.proofs.lemmas.Bool.Decides.{Decides-eqb}
use Rattle.std.proofs.lemmas.Iterator.Adapters.{position_from-zero}
use Rattle.std.specs.List.{position_from, zip}
use Rattle.sg_store.specs.Comparison.{first_difference}

-- the first pair from an index on whose bytes differ
abbrev pub from : ℕ → (bytes others : List ℕ) → Option ℕ
from i bytes others = position_from (λ (pair : ℕ × ℕ). not (pair.0 == pair.1)) i (zip bytes others)

pub is-from : (xs ys : List ℕ) → first_difference xs ys ≡ from 0 xs ys
unfolding first_difference
is-from xs ys = position_from-zero (λ (pair : ℕ × ℕ). not (pair.0 == pair.1)) (zip xs ys)

pub equal : (n : ℕ) → (n == n) ≡ true
equal n = (Decides-eqb n n).1 refl

from-equal : (xs : List ℕ) (i : ℕ) → from i xs xs ≡ None
from-equal [] i = refl
from-equal (x ∷ xs) i = ap (λ b. cond (not b) (Some i) (from (i + 1) xs xs)) (equal x)
    ∙ from-equal xs (i + 1)

none_step : (b : Bool) (m : Option ℕ) (i : ℕ) → cond (not b) (Some i) m ≡ None
    → (b ≡ true) × (m ≡ None)
none_step true m i e = (refl, e)
none_step false m i e = cc

from-none : (xs ys : List ℕ) (i : ℕ) → length xs ≡ length ys → from i xs ys ≡ None → xs ≡ ys
from-none [] [] i len e = refl
from-none [] (y ∷ ys) i len e = absurd (omega arith)
from-none (x ∷ xs) [] i len e = absurd (omega arith)
from-none (x ∷ xs) (y ∷ ys) i len e =
    let step = none_step (x == y) (from (i + 1) xs ys) i e in
    ap₂ (λ z zs. z ∷ zs) ((Decides-eqb x y).0 step.0) (from-none xs ys (i + 1) (omega arith) step.1)

-- bytes do not differ from the same bytes
pub same-none : (xs : List ℕ) → first_difference xs xs ≡ None
same-none xs = is-from xs xs ∙ from-equal xs 0

-- as many bytes with no difference are the same
pub none-same : (xs ys : List ℕ) → length xs ≡ length ys → first_difference xs ys ≡ None → xs ≡ ys
none-same xs ys len e = from-none xs ys 0 len (sym (is-from xs ys) ∙ e)
