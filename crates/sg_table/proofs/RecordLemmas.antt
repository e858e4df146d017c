-- Records by their indices, and the index of an address.
use Rattle.std.proofs.Common.{◌≡◌, ◌≢◌, ℕ, ◌+◌, ◌<◌, ◌≤◌, zero, suc, List, [], ◌∷◌, length, get_or}
use Rattle.std.proofs.Common.{arith, refl, ap, Bool, true, false, Some, None, cond}
use Rattle.std.proofs.Common.{inl, inr}
use Rattle.std.specs.Prelude.{unwrap_or}
use Rattle.sg_table.specs.Records.{start_of, IsSorted, IsLowerBound, same_kind}
use Rattle.sg_table.specs.declared.run.Kind.{Kind}
use Rattle.sg_table.specs.declared.run.Kind.TheVariants.{Data, Anchored}
use Rattle.sg_table.specs.declared.run.Run.{Run}
use Rattle.std.proofs.lemmas.Bool.{cases_lt}

pub start_of-read : (rs : List Run) (i : ℕ) (r : Run) → i < length rs → r ≡ get_or rs i r
    → r.start ≡ start_of rs i
start_of-read [] i r h e = absurd (omega arith)
start_of-read (x ∷ rs) zero r h e = ap (λ (y : Run). y.start) e
start_of-read (x ∷ rs) (suc i) r h e = start_of-read rs i r (omega arith) e

-- the item that a list of records gives past its end
abbrev pub no_run : Run
no_run = record { start = 0; count = 0; first = 0; last = 0; kind = Data }

pub start_of-at : (rs : List Run) (i : ℕ) → (get_or rs i no_run).start ≡ start_of rs i
start_of-at [] i = refl
start_of-at (x ∷ rs) zero = refl
start_of-at (x ∷ rs) (suc i) = start_of-at rs i

pub sorted_tail : (x : Run) (rs : List Run) → IsSorted (x ∷ rs) → IsSorted rs
sorted_tail x rs h i j lt below = h (suc i) (suc j) (omega arith) (omega arith)

-- kinds that are the same
pub alike : (j k : Kind) → same_kind j k ≡ true → j ≡ k
alike Data Data e = refl
alike Data Anchored e = let wrong = e in cc
alike Anchored Data e = let wrong = e in cc
alike Anchored Anchored e = refl

pub own_kind : (k : Kind) → same_kind k k ≡ true
own_kind Data = refl
own_kind Anchored = refl

-- a record that passes a test, or does not
pub picked : (b : Bool) (r run : Run) → cond b (Some r) None ≡ Some run → (b ≡ true) × (r ≡ run)
picked true r run e = (refl, ap (λ o. unwrap_or o r) e)
picked false r run e = let wrong = e in cc

pub dropped : (b : Bool) (r : Run) → cond b (Some r) None ≡ None → b ≡ false
dropped true r e = let wrong = e in cc
dropped false r e = refl

-- the index after a record that was at the address
pub index-mapped : (rs : List Run) (i a : ℕ) (r : Run) → IsSorted rs → IsLowerBound rs i a
    → i < length rs → r ≡ get_or rs i r → r.start ≡ a → IsLowerBound rs (i + 1) (a + 1)
index-mapped rs i a r rises p h e is =
    let at : r.start ≡ start_of rs i = start_of-read rs i r h e in
    record {
      within = omega arith;
      before = λ j lt. elim (cases_lt j i) [
        | inl below ↦ let b : start_of rs j < a =
            p.before j below in omega arith
        | inr above ↦ let same : j ≡ i = omega arith in
            let s : start_of rs j ≡ start_of rs i = ap (start_of rs) same in omega arith
      ];
      after = λ j le lt. let up : start_of rs i < start_of rs j = rises i j (omega arith) lt in omega arith;
    }

-- the index where the next record is past the address
pub index-unmapped : (rs : List Run) (i a : ℕ) → IsSorted rs → IsLowerBound rs i a
    → (i < length rs → start_of rs i ≢ a) → IsLowerBound rs i (a + 1)
index-unmapped rs i a rises p other = record {
  within = p.within;
  before = λ j lt. let b : start_of rs j < a = p.before j lt in omega arith;
  after = λ j le lt. let here : a ≤ start_of rs j = p.after j le lt in
      elim (cases_lt i j) [
        | inl below ↦ let up : start_of rs i < start_of rs j = rises i j below lt in
            let at : a ≤ start_of rs i = p.after i (omega arith) (omega arith) in omega arith
        | inr above ↦ let same : j ≡ i = omega arith in let s : start_of rs j ≡ start_of rs i =
            ap (start_of rs) same in let ne : start_of rs i ≢ a = other (omega arith) in omega arith
      ];
}

-- then no record is at the address
pub none_at : (rs : List Run) (i a : ℕ) → IsSorted rs → IsLowerBound rs i a
    → (i < length rs → start_of rs i ≢ a) → (j : ℕ) → j < length rs → start_of rs j ≢ a
none_at rs i a rises p other j lt e =
    let q = index-unmapped rs i a rises p other in
    elim (cases_lt j i) [
      | inl below ↦ let b : start_of rs j < a = p.before j below in
          absurd (omega arith)
      | inr above ↦ let u : a + 1 ≤ start_of rs j = q.after j above lt in
          absurd (omega arith)
    ]

pub at_or_past : (rs : List Run) (i j a : ℕ) → IsSorted rs → a ≤ start_of rs i → i ≤ j
    → j < length rs → a ≤ start_of rs j
at_or_past rs i j a rises h le lt = elim (cases_lt i j) [
  | inl below ↦ let up : start_of rs i < start_of rs j = rises i j below lt in omega arith
  | inr above ↦ let same : i ≡ j = omega arith in let s : start_of rs i ≡ start_of rs j =
      ap (start_of rs) same in omega arith
]

pub at_or_before : (rs : List Run) (i j a : ℕ) → IsSorted rs → start_of rs i < a → j ≤ i
    → i < length rs → start_of rs j < a
at_or_before rs i j a rises h le lt = elim (cases_lt j i) [
  | inl below ↦ let up : start_of rs j < start_of rs i = rises j i below lt in omega arith
  | inr above ↦ let same : j ≡ i = omega arith in let s : start_of rs j ≡ start_of rs i =
      ap (start_of rs) same in omega arith
]
