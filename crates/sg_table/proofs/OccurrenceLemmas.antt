-- The occurrences of slots in lists.
use Rattle.std.proofs.Common.{◌≡◌, ◌≢◌, ℕ, ◌+◌, ◌<◌, ◌≤◌, zero, suc, List, [], ◌∷◌, ◌++◌, arith}
use Rattle.std.proofs.Common.{sym, ap, ◌∙◌, cond, Bool, true, false, eq-eqb, refl, length, get_or}
use Rattle.std.proofs.lemmas.Bool.Decides.{nat_tests}
use Rattle.std.specs.Prelude.{nat_lt, insert}
use Rattle.std.specs.List.{range_with_len}
use Rattle.sg_table.specs.Records.{slots_of}
use Rattle.sg_table.specs.Occurrences.{one_if_equal, occurrences, IsEachOnce}
use Rattle.sg_table.specs.declared.run.Run.{Run}
use Rattle.std.proofs.lemmas.List.{map-id}
use Rattle.std.proofs.lemmas.List.FromFn.{map-range_with_len_more}

pub not_equal : (t x : ℕ) → one_if_equal t x ≡ 0 → x ≢ t
not_equal t x none e = let one : one_if_equal t x ≡ 1 =
    ap (λ (b : Bool). cond b 1 0) (eq-eqb x t e) in absurd (omega arith)

pub same_slot : (s : ℕ) → one_if_equal s s ≡ 1
same_slot s = ap (λ (b : Bool). cond b 1 0) (eq-eqb s s refl)

pub occurrences-append : (t : ℕ) (xs ys : List ℕ) → occurrences t (xs ++ ys) ≡
    occurrences t xs + occurrences t ys
unfolding occurrences
occurrences-append t [] ys = omega arith
occurrences-append t (x ∷ xs) ys = omega (arith, occurrences-append t xs ys)

pub occurrences-one : (t s : ℕ) → occurrences t (s ∷ []) ≡ one_if_equal t s
unfolding occurrences
occurrences-one t s = omega arith

pub occurrences-more : (t s : ℕ) (xs : List ℕ) → occurrences t (s ∷ xs) ≡ one_if_equal t s + occurrences t xs
unfolding occurrences
occurrences-more t s xs = omega arith

at_most_once : (b : Bool) (n : ℕ) → n ≡ cond b 1 0 → n ≤ 1
at_most_once true n e = omega arith
at_most_once false n e = omega arith

pub once-le : (count : ℕ) (xs : List ℕ) (t : ℕ) → IsEachOnce count xs → occurrences t xs ≤ 1
once-le count xs t once = at_most_once _ _ (once.each t)

-- a number that occurs in the list is below the count
pub below_count : (count : ℕ) (xs : List ℕ) (t : ℕ) → IsEachOnce count xs → 1 ≤ occurrences t xs → t < count
below_count count xs t once h = let e = once.each t in grind (arith, nat_tests)

none_below : (t : ℕ) → cond {A = ℕ} (nat_lt t 0) 1 0 ≡ 0
none_below t = grind (arith, nat_tests)

pub once-none : IsEachOnce 0 []
unfolding occurrences
once-none = record { each = λ t. sym (none_below t) }

pub once_step : (t n m : ℕ) → m ≡ (cond (nat_lt t n) 1 0) → m + one_if_equal t n ≡ cond (nat_lt t (n + 1)) 1 0
once_step t n m e = grind (arith, nat_tests)

once-more : (n : ℕ) (xs : List ℕ) → IsEachOnce n xs → IsEachOnce (n + 1) (xs ++ n ∷ [])
once-more n xs once = record {
  each = λ t. occurrences-append t xs (n ∷ [])
      ∙ ap (λ k. occurrences t xs + k) (occurrences-one t n)
      ∙ once_step t n (occurrences t xs) (once.each t);
}

-- one more number
range-more : (n : ℕ) → range_with_len 0 (n + 1) ≡ range_with_len 0 n ++ n ∷ []
range-more n = sym (map-id (range_with_len 0 (n + 1)))
    ∙ map-range_with_len_more (λ x. x) 0 n n (omega arith)
    ∙ ap (λ xs. xs ++ n ∷ []) (map-id (range_with_len 0 n))

-- the numbers below a count
pub once-range : (n : ℕ) → IsEachOnce n (range_with_len 0 n)
once-range zero = once-none
once-range (suc n) =
    let e : n + 1 ≡ suc n = omega arith in
    rw e at (rw (sym (range-more n)) at (once-more n (range_with_len 0 n) (once-range n)))

-- the slot of record i
pub occurrences-at : (rs : List Run) (i : ℕ) (r : Run) → i < length rs → r ≡ get_or rs i r
    → 1 ≤ occurrences r.first (slots_of rs)
unfolding occurrences
occurrences-at [] i r h e = absurd (omega arith)
occurrences-at (x ∷ rs) zero r h e = let one : one_if_equal r.first x.first ≡ 1 =
    ap (λ (c : Bool). cond c 1 0) (eq-eqb x.first r.first (ap (λ (y : Run). y.first) (sym e))) in
    omega arith
occurrences-at (x ∷ rs) (suc i) r h e = omega (arith, occurrences-at rs i r (omega arith) e)

pub occurrences-insert : (t : ℕ) (rs : List Run) (i : ℕ) (r : Run)
    → occurrences t (slots_of (insert rs i r)) ≡ one_if_equal t r.first + occurrences t (slots_of rs)
unfolding occurrences
occurrences-insert t rs zero r = refl
occurrences-insert t [] (suc i) r = refl
occurrences-insert t (x ∷ rs) (suc i) r = omega (arith, occurrences-insert t rs i r)
