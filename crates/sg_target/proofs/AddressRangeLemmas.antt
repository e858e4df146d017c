-- Lists of ranges.
use Rattle.std.proofs.Common.{◌≡◌, ℕ, ◌+◌, ◌-◌, ◌<◌, ◌≤◌, min, max, List, [], ◌∷◌, ◌++◌, length}
use Rattle.std.proofs.Common.{Bool, true, false, refl, sym, ap, ap₂, ◌∙◌, arith, ◌⊎◌, inl, inr}
use Rattle.std.proofs.Common.{zero, suc, get_or}
use Rattle.std.proofs.Math.Bool.{or_assoc}
use Rattle.std.proofs.lemmas.Bool.{cases_lt}
use Rattle.std.proofs.lemmas.Bool.Decides.{nat_tests}
use Rattle.std.specs.Prelude.{◌||◌, nat_lt}
use Rattle.sg_target.specs.Joining.{end_of, covers, lies_in_some, AreWithin, AreDisjoint, Cost}
use Rattle.sg_target.specs.Joining.{IsSubadditive, cost_of, both}
use Rattle.sg_target.specs.declared.joining.AddressRange.{AddressRange}

-- ---- truth values

pub or_swap : (a b c : Bool) → (a || (b || c)) ≡ (b || (a || c))
or_swap true true c = refl
or_swap true false c = refl
or_swap false b c = refl

pub or_left : (a b : Bool) → (a || b) ≡ false → a ≡ false
or_left true b e = e
or_left false b e = refl

pub or_right : (a b : Bool) → (a || b) ≡ false → b ≡ false
or_right true b e = let wrong = e in cc
or_right false b e = e

pub both_false : (a b : Bool) → a ≡ false → b ≡ false → (a || b) ≡ false
both_false true b e f = let wrong = e in cc
both_false false b e f = f

pub either_true : (a b : Bool) → (a || b) ≡ true → (a ≡ true) ⊎ (b ≡ true)
either_true true b e = inl refl
either_true false b e = inr e

pub not_true : (a : Bool) → (a ≡ true → ⊥) → a ≡ false
not_true true h = absurd (h refl)
not_true false h = refl

pub true_false : {a : Bool} → a ≡ true → a ≡ false → ⊥
true_false e f = cc

-- ---- a range among others

pub some-append : (xs ys : List AddressRange) (q : ℕ)
    → lies_in_some (xs ++ ys) q ≡ (lies_in_some xs q || lies_in_some ys q)
some-append [] ys q = refl
some-append (x ∷ xs) ys q = ap (λ b. covers q x || b) (some-append xs ys q)
    ∙ sym (or_assoc (covers q x) (lies_in_some xs q) (lies_in_some ys q))

pub some-middle : (xs ys : List AddressRange) (x : AddressRange) (q : ℕ)
    → lies_in_some (xs ++ x ∷ ys) q ≡ (covers q x || lies_in_some (xs ++ ys) q)
some-middle [] ys x q = refl
some-middle (y ∷ xs) ys x q = ap (λ b. covers q y || b) (some-middle xs ys x q)
    ∙ or_swap (covers q y) (covers q x) (lies_in_some (xs ++ ys) q)

pub cost-middle : (cost : Cost) (xs ys : List AddressRange) (x : AddressRange)
    → cost_of cost (xs ++ x ∷ ys) ≡ cost x.lba x.count + cost_of cost (xs ++ ys)
cost-middle cost [] ys x = refl
cost-middle cost (y ∷ xs) ys x = let rest = cost-middle cost xs ys x in omega arith

pub within-middle : (capacity : ℕ) (xs ys : List AddressRange) (x : AddressRange)
    → AreWithin capacity (xs ++ x ∷ ys) → (end_of x ≤ capacity) × AreWithin capacity (xs ++ ys)
within-middle capacity [] ys x h = (h.0, h.1)
within-middle capacity (y ∷ xs) ys x h = let rest = within-middle capacity xs ys x h.1 in
    (rest.0, (h.0, rest.1))

pub within-left : (capacity : ℕ) (xs ys : List AddressRange) → AreWithin capacity (xs ++ ys)
    → AreWithin capacity xs
within-left capacity [] ys h = tt
within-left capacity (x ∷ xs) ys h = (h.0, within-left capacity xs ys h.1)

pub within-append : (capacity : ℕ) (xs ys : List AddressRange) → AreWithin capacity xs
    → AreWithin capacity ys → AreWithin capacity (xs ++ ys)
within-append capacity [] ys h k = k
within-append capacity (x ∷ xs) ys h k = (h.0, within-append capacity xs ys h.1 k)

pub within-at : (capacity : ℕ) (xs : List AddressRange) (i : ℕ) (d : AddressRange) → i < length xs
    → AreWithin capacity xs → end_of (get_or xs i d) ≤ capacity
within-at capacity [] i d here h = absurd (omega arith)
within-at capacity (x ∷ xs) zero d here h = h.0
within-at capacity (x ∷ xs) (suc i) d here h = within-at capacity xs i d (omega arith) h.1

-- a range has no address of the others, wherever it stands among them
module _ (x : AddressRange) where
  pub disjoint-middle : (xs ys : List AddressRange) → AreDisjoint (xs ++ x ∷ ys)
      → AreDisjoint (x ∷ (xs ++ ys))
  disjoint-middle [] ys h = h
  disjoint-middle (y ∷ xs) ys h =
      let rest = disjoint-middle xs ys h.1 in
      let apart : (q : ℕ) → covers q y ≡ true → (covers q x || lies_in_some (xs ++ ys) q) ≡ false =
      λ q e. sym (some-middle xs ys x q) ∙ h.0 q e in (
        λ q e. both_false (covers q y) (lies_in_some (xs ++ ys) q)
            (not_true (covers q y) (λ f. true_false e
            (or_left (covers q x) (lies_in_some (xs ++ ys) q) (apart q f))))
            (rest.0 q e),
        (λ q e. or_right (covers q x) (lies_in_some (xs ++ ys) q) (apart q e), rest.1),
      )

  pub disjoint-last : (xs : List AddressRange) → AreDisjoint xs
      → ((q : ℕ) → covers q x ≡ true → lies_in_some xs q ≡ false) → AreDisjoint (xs ++ x ∷ [])
  disjoint-last [] h k = (λ q e. refl, tt)
  disjoint-last (y ∷ xs) h k = (
    λ q e. some-append xs (x ∷ []) q ∙ both_false (lies_in_some xs q) (covers q x || false)
        (h.0 q e)
        (both_false (covers q x) false
        (not_true (covers q x) (λ f. true_false e (or_left (covers q y) (lies_in_some xs q) (k q f))))
        refl),
    disjoint-last xs h.1 (λ q e. or_right (covers q y) (lies_in_some xs q) (k q e)),
  )

pub disjoint-left : (xs ys : List AddressRange) → AreDisjoint (xs ++ ys) → AreDisjoint xs
disjoint-left [] ys h = tt
disjoint-left (x ∷ xs) ys h = (
  λ q e. or_left (lies_in_some xs q) (lies_in_some ys q) (sym (some-append xs ys q) ∙ h.0 q e),
  disjoint-left xs ys h.1,
)

-- ---- two ranges

-- no address lies in both if there is one between them
pub apart-covers : (a b : AddressRange) (q : ℕ)
    → (nat_lt (end_of a) b.lba || nat_lt (end_of b) a.lba) ≡ true → covers q a ≡ true
    → covers q b ≡ false
apart-covers a b q e f = grind (arith, nat_tests)

pub both-covers : (a b : AddressRange) (q : ℕ)
    → (nat_lt (end_of a) b.lba || nat_lt (end_of b) a.lba) ≡ false
    → covers q (both a b) ≡ (covers q a || covers q b)
both-covers a b q e = grind (arith, nat_tests)

near : (a b : AddressRange) → (nat_lt (end_of a) b.lba || nat_lt (end_of b) a.lba) ≡ false
    → (b.lba ≤ end_of a) × (a.lba ≤ end_of b)
near a b e = (grind (arith, nat_tests), grind (arith, nat_tests))

pub both-within : (a b : AddressRange) (capacity : ℕ) → end_of a ≤ capacity → end_of b ≤ capacity
    → end_of (both a b) ≤ capacity
both-within a b capacity h k = omega arith

-- the first of them begins before the other, or does not
begins : (cost : Cost) (a b : AddressRange) → IsSubadditive cost → a.lba ≤ b.lba
    → b.lba ≤ end_of a
    → cost (both a b).lba (both a b).count ≤ cost a.lba a.count + cost b.lba b.count
begins cost a b law le reaches =
    let at : min a.lba b.lba ≡ a.lba = omega arith in
    let offset : a.lba + (b.lba - a.lba) ≡ b.lba = omega arith in
    let n : max (end_of a) (end_of b) - a.lba ≡ max a.count (b.lba - a.lba + b.count) = omega arith in
    let one = law a.lba a.count (b.lba - a.lba) b.count (omega arith) in
    rw (at, n) (rw offset at one)

pub both-cheaper : (cost : Cost) (a b : AddressRange) → IsSubadditive cost
    → (nat_lt (end_of a) b.lba || nat_lt (end_of b) a.lba) ≡ false
    → cost (both a b).lba (both a b).count ≤ cost a.lba a.count + cost b.lba b.count
both-cheaper cost a b law e =
    let n = near a b e in
    elim (cases_lt b.lba a.lba) [
      | inl before ↦
          let at : min b.lba a.lba ≡ min a.lba b.lba = omega arith in
          let m : max (end_of b) (end_of a) ≡ max (end_of a) (end_of b) = omega arith in
          let other = begins cost b a law (omega arith) n.1 in
          let same : cost (both b a).lba (both b a).count ≡ cost (both a b).lba (both a b).count =
          ap₂ (λ x y. cost x (y - x)) at m in
          omega (arith, other, same)
      | inr after ↦ begins cost a b law after n.0
    ]
