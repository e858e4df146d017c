-- The single addresses of extents.
use Rattle.std.proofs.Common.{◌≡◌, ◌≢◌, ℕ, ◌+◌, ◌≤◌, zero, suc, List, [], ◌∷◌, ◌++◌, length, cond}
use Rattle.std.proofs.Common.{arith, refl, sym, ap, ◌∙◌, append_assoc, length-append, Bool, inl}
use Rattle.std.proofs.Common.{inr}
use Rattle.std.proofs.lemmas.Bool.{cases_lt}
use Rattle.std.proofs.lemmas.Bool.Decides.{nat_tests}
use Rattle.std.proofs.lemmas.List.Elements.{All-head, All-tail}
use Rattle.std.proofs.lemmas.List.Sums.{sum_by-append}
use Rattle.std.specs.List.{All, count_by}
use Rattle.sg_store.specs.Disk.{lies_in}
use Rattle.sg_table.specs.Records.{single, slots_of}
use Rattle.sg_table.specs.Occurrences.{occurrences, one_if_equal}
use Rattle.sg_table.specs.declared.run.Kind.{Kind}
use Rattle.sg_table.specs.declared.run.Run.{Run}
use Rattle.sg_table.proofs.OccurrenceLemmas.{same_slot}
use Rattle.sg_store.proofs.DiskLemmas.{inside, below, above}
use Rattle.sg_extent_map.specs.Extents.{singles_from, singles_of, singles, IsExtent}

pub count-append : {X : Type 0} (p : X → Bool) (xs ys : List X)
    → count_by p (xs ++ ys) ≡ count_by p xs + count_by p ys
count-append p xs ys = sum_by-append (λ x. cond (p x) 1 0) xs ys

pub length-from : (start first n : ℕ) (kind : Kind) → length (singles_from start first n kind) ≡ n
unfolding singles_from
length-from start first zero kind = refl
length-from start first (suc n) kind = ap suc (length-from (start + 1) (first + 1) n kind)

pub from-none : (start first : ℕ) (kind : Kind) → singles_from start first 0 kind ≡ []
unfolding singles_from
from-none start first kind = refl

pub from-one : (start first : ℕ) (kind : Kind)
    → singles_from start first 1 kind ≡ single start first kind ∷ []
unfolding singles_from
from-one start first kind = refl

pub from-more : (start first n : ℕ) (kind : Kind)
    → singles_from start first (suc n) kind
    ≡ single start first kind ∷ singles_from (start + 1) (first + 1) n kind
unfolding singles_from
from-more start first n kind = refl

pub from-append : (start first n m : ℕ) (kind : Kind)
    → singles_from start first (n + m) kind
    ≡ singles_from start first n kind ++ singles_from (start + n) (first + n) m kind
unfolding singles_from
from-append start first zero m kind =
    let e : start + 0 ≡ start = omega arith in
    let f : 0 + m ≡ m = omega arith in
    let g : first + 0 ≡ first = omega arith in
    rw (e, f, g) refl
from-append start first (suc n) m kind =
    let e : suc n + m ≡ suc (n + m) = omega arith in
    let f : start + suc n ≡ start + 1 + n = omega arith in
    let g : first + suc n ≡ first + 1 + n = omega arith in
    rw (e, f, g) (ap (λ xs. single start first kind ∷ xs) (from-append (start + 1) (first + 1) n m kind))

pub singles-none : singles [] ≡ []
unfolding singles
singles-none = refl

pub singles-more : (run : Run) (runs : List Run) → singles (run ∷ runs) ≡ singles_of run ++ singles runs
unfolding singles
singles-more run runs = refl

pub singles-append : (xs ys : List Run) → singles (xs ++ ys) ≡ singles xs ++ singles ys
unfolding singles
singles-append [] ys = refl
singles-append (x ∷ xs) ys = ap (λ zs. singles_of x ++ zs) (singles-append xs ys)
    ∙ sym (append_assoc (singles_of x) (singles xs) (singles ys))

pub append-none : (ys : List Run) → ys ++ [] ≡ ys
append-none [] = refl
append-none (y ∷ ys) = ap (λ zs. y ∷ zs) (append-none ys)

pub singles-last : (xs : List Run) (run : Run) → singles (xs ++ run ∷ []) ≡ singles xs ++ singles_of run
singles-last xs run = singles-append xs (run ∷ [])
    ∙ ap (λ zs. singles xs ++ zs) (singles-more run [] ∙ ap (λ zs. singles_of run ++ zs) singles-none
    ∙ append-none (singles_of run))

pub slots-append : (xs ys : List Run) → slots_of (xs ++ ys) ≡ slots_of xs ++ slots_of ys
slots-append [] ys = refl
slots-append (x ∷ xs) ys = ap (λ zs. x.first ∷ zs) (slots-append xs ys)

-- there are no more extents than addresses
pub length-singles : (room : ℕ) (runs : List Run) → All (IsExtent room) runs
    → length runs ≤ length (singles runs)
length-singles room [] h = omega arith
length-singles room (run ∷ runs) h =
    let one : IsExtent room run = All-head (IsExtent room) run runs h in
    let some = one.not_empty in
    let rest = length-singles room runs (All-tail (IsExtent room) run runs h) in
    let len = ap length (singles-more run runs) ∙ length-append (singles_of run) (singles runs) in
    let from = length-from run.start run.first run.count run.kind in
    omega arith

-- ---- The slots of an extent

other_slot : (t x : ℕ) → t ≢ x → one_if_equal t x ≡ 0
other_slot t x other = grind (arith, nat_tests)

abbrev one_or_none : Bool → ℕ
one_or_none b = cond b 1 0

-- one more number of a range
pub lies-more : (t first n : ℕ) → cond {A = ℕ} (lies_in first (suc n) t) 1 0
    ≡ one_if_equal t first + cond (lies_in (first + 1) n t) 1 0
lies-more t first n = elim (cases_lt t first) [
  | inl lt ↦
      let one = other_slot t first (omega arith) in
      rw (below first (suc n) t lt)
      (omega (arith, one, ap one_or_none (below (first + 1) n t (omega arith))))
  | inr ge ↦ elim (cases_lt first t) [
    | inl lt ↦
        let one = other_slot t first (omega arith) in
        elim (cases_lt t (first + suc n)) [
          | inl high ↦ rw (inside first (suc n) t ge high)
              (omega (arith, one, ap one_or_none (inside (first + 1) n t (omega arith) (omega arith))))
          | inr past ↦ rw (above first (suc n) t past)
              (omega (arith, one, ap one_or_none (above (first + 1) n t (omega arith))))
        ]
    | inr le ↦
        let same : t ≡ first = omega arith in
        rw (inside first (suc n) t ge (omega arith)) (omega (
          arith,
          ap one_or_none (below (first + 1) n t (omega arith)),
          same_slot first,
          ap (λ x. one_if_equal x first) same,
        ))
  ]
]

pub occurrences-from : (t start first n : ℕ) (kind : Kind)
    → occurrences t (slots_of (singles_from start first n kind)) ≡ cond (lies_in first n t) 1 0
unfolding singles_from occurrences
occurrences-from t start first zero kind = elim (cases_lt t first) [
  | inl lt ↦ rw (below first 0 t lt) refl
  | inr ge ↦ rw (above first 0 t (omega arith)) refl
]
occurrences-from t start first (suc n) kind =
    omega (arith, occurrences-from t (start + 1) (first + 1) n kind, lies-more t first n)
