-- Single addresses that lie between two others, and runs that do.
use Rattle.std.proofs.Common.{◌≡◌, ◌≢◌, ℕ, ◌+◌, ◌-◌, ◌<◌, ◌≤◌, zero, suc, List, [], ◌∷◌, ◌++◌}
use Rattle.std.proofs.Common.{length, arith, refl, inl, inr, length-append}
use Rattle.std.proofs.lemmas.Bool.{cases_lt}
use Rattle.sg_table.specs.Records.{start_of, IsSorted, IsLowerBound}
use Rattle.sg_table.specs.declared.run.Run.{Run}
use Rattle.sg_pool.specs.Rising.{end_of, AreApart, AreBetween}

pub between-le : (xs : List Run) (a b : ℕ) → AreBetween a b xs → a ≤ b
between-le [] a b h = h
between-le (x ∷ xs) a b h = let rest = between-le xs (x.start + 1) b h.1 in omega arith

pub between-weaker : (xs : List Run) (a b a' b' : ℕ) → a' ≤ a → b ≤ b' → AreBetween a b xs
    → AreBetween a' b' xs
between-weaker [] a b a' b' l r h = omega arith
between-weaker (x ∷ xs) a b a' b' l r h = (
  omega (arith, h.0),
  between-weaker xs (x.start + 1) b (x.start + 1) b' (omega arith) r h.1,
)

pub between-append : (xs ys : List Run) (a m b : ℕ) → AreBetween a m xs → AreBetween m b ys
    → AreBetween a b (xs ++ ys)
between-append [] ys a m b h k = between-weaker ys m b a b h (omega arith) k
between-append (x ∷ xs) ys a m b h k = (h.0, between-append xs ys (x.start + 1) m b h.1 k)

pub between-low : (xs : List Run) (a b i : ℕ) → AreBetween a b xs → i < length xs
    → a ≤ start_of xs i
between-low [] a b i h lt = absurd (omega arith)
between-low (x ∷ xs) a b zero h lt = h.0
between-low (x ∷ xs) a b (suc i) h lt = let rest =
    between-low xs (x.start + 1) b i h.1 (omega arith) in omega (arith, h.0)

pub between-high : (xs : List Run) (a b i : ℕ) → AreBetween a b xs → i < length xs
    → start_of xs i < b
between-high [] a b i h lt = absurd (omega arith)
between-high (x ∷ xs) a b zero h lt = let rest = between-le xs (x.start + 1) b h.1 in omega arith
between-high (x ∷ xs) a b (suc i) h lt = between-high xs (x.start + 1) b i h.1 (omega arith)

pub sorted-between : (xs : List Run) (a b : ℕ) → AreBetween a b xs → IsSorted xs
sorted-between [] a b h i j lt below = absurd (omega arith)
sorted-between (x ∷ xs) a b h zero zero lt below = absurd (omega arith)
sorted-between (x ∷ xs) a b h (suc i) zero lt below = absurd (omega arith)
sorted-between (x ∷ xs) a b h zero (suc j) lt below = let up =
    between-low xs (x.start + 1) b j h.1 (omega arith) in omega arith
sorted-between (x ∷ xs) a b h (suc i) (suc j) lt below =
    sorted-between xs (x.start + 1) b h.1 i j (omega arith) (omega arith)

pub start_of-left : (xs ys : List Run) (i : ℕ) → i < length xs
    → start_of (xs ++ ys) i ≡ start_of xs i
start_of-left [] ys i lt = absurd (omega arith)
start_of-left (x ∷ xs) ys zero lt = refl
start_of-left (x ∷ xs) ys (suc i) lt = start_of-left xs ys i (omega arith)

pub start_of-right : (xs ys : List Run) (i : ℕ) → length xs ≤ i
    → start_of (xs ++ ys) i ≡ start_of ys (i - length xs)
start_of-right [] ys i le = let e : i - 0 ≡ i = omega arith in rw e refl
start_of-right (x ∷ xs) ys zero le = absurd (omega arith)
start_of-right (x ∷ xs) ys (suc i) le = let e : suc i - suc (length xs) ≡ i - length xs =
    omega arith in rw e (start_of-right xs ys i (omega arith))

-- the addresses past an address begin at its index
pub index-between : (xs ys : List Run) (a m n b : ℕ) → AreBetween a m xs → AreBetween n b ys → m ≤ n
    → IsLowerBound (xs ++ ys) (length xs) m
index-between xs ys a m n b h k le =
    let len = length-append xs ys in
    record {
      within = omega arith;
      before = λ i lt. let s = start_of-left xs ys i lt in let up = between-high xs a m i h lt in
          omega arith;
      after = λ i ge lt. let s = start_of-right xs ys i ge in
          let up = between-low ys n b (i - length xs) k (omega arith) in omega arith;
    }

-- an address that lies between the two parts
pub none-between : (xs ys : List Run) (a m n b q : ℕ) → AreBetween a m xs → AreBetween n b ys
    → m ≤ q → q < n → (j : ℕ) → j < length (xs ++ ys) → start_of (xs ++ ys) j ≢ q
none-between xs ys a m n b q h k le lt j low same =
    let len = length-append xs ys in
    elim (cases_lt j (length xs)) [
      | inl in_xs ↦ let s = start_of-left xs ys j in_xs in let up = between-high xs a m j h in_xs in
          absurd (omega arith)
      | inr in_ys ↦ let s = start_of-right xs ys j in_ys in
          let up = between-low ys n b (j - length xs) k (omega arith) in absurd (omega arith)
    ]

pub apart-le : (runs : List Run) (a b : ℕ) → AreApart a b runs → a ≤ b
apart-le [] a b h = h
apart-le (run ∷ runs) a b h = let rest = apart-le runs (end_of run) b h.2 in omega (arith, h.0)

pub apart-weaker : (runs : List Run) (a b a' b' : ℕ) → a' ≤ a → b ≤ b' → AreApart a b runs
    → AreApart a' b' runs
apart-weaker [] a b a' b' l r h = omega arith
apart-weaker (run ∷ runs) a b a' b' l r h = (
  omega (arith, h.0),
  h.1,
  apart-weaker runs (end_of run) b (end_of run) b' (omega arith) r h.2,
)

pub apart-append : (xs ys : List Run) (a m b : ℕ) → AreApart a m xs → AreApart m b ys
    → AreApart a b (xs ++ ys)
apart-append [] ys a m b h k = apart-weaker ys m b a b h (omega arith) k
apart-append (x ∷ xs) ys a m b h k = (h.0, h.1, apart-append xs ys (end_of x) m b h.2 k)

-- the first address where the runs after others may begin
abbrev pub end_of_all : (low : ℕ) → List Run → ℕ
end_of_all low [] = low
end_of_all low (run ∷ runs) = end_of_all (end_of run) runs

pub apart-left : (xs ys : List Run) (a b : ℕ) → AreApart a b (xs ++ ys)
    → AreApart a (end_of_all a xs) xs
apart-left [] ys a b h = omega arith
apart-left (x ∷ xs) ys a b h = (h.0, h.1, apart-left xs ys (end_of x) b h.2)

pub apart-right : (xs ys : List Run) (a b : ℕ) → AreApart a b (xs ++ ys)
    → AreApart (end_of_all a xs) b ys
apart-right [] ys a b h = h
apart-right (x ∷ xs) ys a b h = apart-right xs ys (end_of x) b h.2

pub apart-between : (runs : List Run) (a b : ℕ) → AreApart a b runs → AreBetween a b runs
apart-between [] a b h = h
apart-between (run ∷ runs) a b h = (
  h.0,
  between-weaker runs (end_of run) b (run.start + 1) b (omega (arith, h.1)) (omega arith)
      (apart-between runs (end_of run) b h.2),
)

pub apart-sorted : (runs : List Run) (a b : ℕ) → AreApart a b runs → IsSorted runs
apart-sorted runs a b h = sorted-between runs a b (apart-between runs a b h)

-- ---- Two parts of addresses that rise

pub between-right : (xs ys : List Run) (a b : ℕ) → AreBetween a b (xs ++ ys) → AreBetween a b ys
between-right [] ys a b h = h
between-right (x ∷ xs) ys a b h = between-weaker ys (x.start + 1) b a b (omega (arith, h.0)) (omega arith)
    (between-right xs ys (x.start + 1) b h.1)

-- the first part ends before an address
pub between-cut : (xs ys : List Run) (a b c : ℕ) → AreBetween a b (xs ++ ys) → a ≤ c
    → ((i : ℕ) → i < length xs → start_of xs i < c) → AreBetween a c xs
between-cut [] ys a b c h le all = le
between-cut (x ∷ xs) ys a b c h le all =
    let first = all 0 (omega arith) in
    (h.0, between-cut xs ys (x.start + 1) b c h.1 (omega arith) (λ i lt. all (suc i) (omega arith)))

pub between-both : (xs ys zs : List Run) (a b c d e : ℕ) → AreBetween a b ((xs ++ ys) ++ zs)
    → AreBetween d c xs → AreBetween e c ys → a ≤ c → AreBetween a c (xs ++ ys)
between-both xs ys zs a b c d e h k l le = between-cut (xs ++ ys) zs a b c h le (λ i lt.
    let len = length-append xs ys in
    elim (cases_lt i (length xs)) [
      | inl in_xs ↦ let s = start_of-left xs ys i in_xs in let up = between-high xs d c i k in_xs in
          omega arith
      | inr in_ys ↦ let s = start_of-right xs ys i in_ys in
          let up = between-high ys e c (i - length xs) l (omega arith) in omega arith
    ])

-- the first part begins at an address or past it, or the second does
pub between-raised : (xs ys : List Run) (a b c d : ℕ) → AreBetween a b (xs ++ ys) → AreBetween c b xs
    → AreBetween d b ys → c ≤ d → AreBetween c b (xs ++ ys)
between-raised [] ys a b c d h k l le = between-weaker ys d b c b le (omega arith) l
between-raised (x ∷ xs) ys a b c d h k l le = (k.0, h.1)
