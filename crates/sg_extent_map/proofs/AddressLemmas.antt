-- The addresses of runs, and the order of the runs.
use Rattle.std.proofs.Common.{◌≡◌, ℕ, ◌+◌, ◌<◌, ◌≤◌, zero, suc, List, [], ◌∷◌, ◌++◌, length}
use Rattle.std.proofs.Common.{arith, refl, ap, ◌∙◌, ◌⊎◌, inl, get_or, sym}
use Rattle.std.proofs.Common.{inr, cond, Bool, true, false, Option, Some, None}
use Rattle.std.proofs.lemmas.Bool.{cases_lt}
use Rattle.std.specs.Cmp.{nat_cmp_total}
use Rattle.std.specs.FinMap.{find, get, get-from_entries, contains_key}
use Rattle.std.specs.Ordering.{nat_cmp, eq_by_cmp}
use Rattle.std.specs.Prelude.{is_some}
use Rattle.sg_store.specs.Disk.{Mapping}
use Rattle.sg_table.specs.Records.{start_of}
use Rattle.sg_pool.specs.MappedRecords.{Seen, entries_by, contents_by}
use Rattle.sg_table.specs.declared.run.Kind.{Kind}
use Rattle.sg_table.specs.declared.run.Kind.TheVariants.{Data}
use Rattle.sg_table.specs.declared.run.Run.{Run}
use Rattle.sg_extent_map.specs.Gathering.{end_at}
use Rattle.sg_extent_map.specs.Extents.{singles_from, singles_of, singles}
use Rattle.sg_pool.specs.Rising.{end_of, AreApart}
use Rattle.sg_store.proofs.DiskLemmas.{eq_same, eq_other}
use Rattle.sg_extent_map.proofs.BetweenLemmas.{between-from}
use Rattle.sg_pool.proofs.RisingLemmas.{apart-le}
use Rattle.sg_pool.proofs.ContentsLemmas.{find-below, find-above, find-right}
use Rattle.sg_extent_map.proofs.SinglesLemmas.{singles-more, singles-none}

-- the kind of the run at an index
abbrev pub kind_at : List Run → ℕ → Kind
kind_at [] i = Data
kind_at (run ∷ records) zero = run.kind
kind_at (run ∷ records) (suc i) = kind_at records i

-- ---- The order of runs

apart-past : (rs : List Run) (a b j : ℕ) → AreApart a b rs → j < length rs → a ≤ start_of rs j
apart-past [] a b j h lt = absurd (omega arith)
apart-past (x ∷ rs) a b zero h lt = h.0
apart-past (x ∷ rs) a b (suc j) h lt = omega
    (arith, h.0, apart-past rs (end_of x) b j h.2 (omega arith))

pub apart-order : (rs : List Run) (a b i j : ℕ) → AreApart a b rs → i < j → j < length rs
    → end_at rs i ≤ start_of rs j
apart-order [] a b i j h lt low = absurd (omega arith)
apart-order (x ∷ rs) a b i zero h lt low = absurd (omega arith)
apart-order (x ∷ rs) a b zero (suc j) h lt low = apart-past rs (end_of x) b j h.2 (omega arith)
apart-order (x ∷ rs) a b (suc i) (suc j) h lt low =
    apart-order rs (end_of x) b i j h.2 (omega arith) (omega arith)

pub ends-within : (rs : List Run) (a b i : ℕ) → AreApart a b rs → i < length rs → end_at rs i ≤ b
ends-within [] a b i h lt = absurd (omega arith)
ends-within (x ∷ rs) a b zero h lt = apart-le rs (end_of x) b h.2
ends-within (x ∷ rs) a b (suc i) h lt = ends-within rs (end_of x) b i h.2 (omega arith)

pub apart-filled : (rs : List Run) (a b i : ℕ) → AreApart a b rs → i < length rs
    → start_of rs i < end_at rs i
apart-filled [] a b i h lt = absurd (omega arith)
apart-filled (x ∷ rs) a b zero h lt = omega (arith, h.1)
apart-filled (x ∷ rs) a b (suc i) h lt = apart-filled rs (end_of x) b i h.2 (omega arith)

-- ---- The addresses of runs

left-some : (b : Bool) (u v : Mapping) (o p : Option Mapping) → (o ≡ Some v → p ≡ Some v)
    → cond b (Some u) o ≡ Some v → cond b (Some u) p ≡ Some v
left-some true u v o p f e = e
left-some false u v o p f e = f e

found-left : (xs ys : List Run) (f : Seen Mapping) (q : ℕ) (v : Mapping)
    → find nat_cmp q (entries_by f xs) ≡ Some v → find nat_cmp q (entries_by f (xs ++ ys)) ≡ Some v
found-left [] ys f q v e = cc
found-left (x ∷ xs) ys f q v e = left-some (eq_by_cmp nat_cmp q x.start) _ _ _ _
    (found-left xs ys f q v) e

found-single : (f : Seen Mapping) (start first n : ℕ) (kind : Kind) (q : ℕ)
    → start ≤ q → q < start + n
    → (slot : ℕ) × (find nat_cmp q (entries_by f (singles_from start first n kind))
    ≡ Some (f slot kind))
unfolding singles_from
found-single f start first zero kind q le lt = absurd (omega arith)
found-single f start first (suc n) kind q le lt = elim (cases_lt start q) [
  | inl below ↦
      let rest = found-single f (start + 1) (first + 1) n kind q (omega arith)
      (omega arith) in
      let other : eq_by_cmp nat_cmp q start ≡ false =
      eq_other q start (λ same. absurd (omega arith)) in
      (rest.0, rw other rest.1)
  | inr here ↦ let same : eq_by_cmp nat_cmp q start ≡ true = eq_same q start (omega arith) in
      (first, rw same refl)
]

found-inside : (rs : List Run) (f : Seen Mapping) (a b i q : ℕ)
    → AreApart a b rs → i < length rs → start_of rs i ≤ q → q < end_at rs i
    → (slot : ℕ) × (find nat_cmp q (entries_by f (singles rs)) ≡ Some (f slot (kind_at rs i)))
found-inside [] f a b i q h low le lt = absurd (omega arith)
found-inside (x ∷ rs) f a b zero q h low le lt =
    let one = found-single f x.start x.first x.count x.kind q le lt in (
      one.0,
      rw (singles-more x rs) (found-left (singles_of x) (singles rs) f q _ one.1),
    )
found-inside (x ∷ rs) f a b (suc i) q h low le lt =
    let rest = found-inside rs f (end_of x) b i q h.2 (omega arith) le lt in
    let past = apart-past rs (end_of x) b i h.2 (omega arith) in
    let none = find-above (singles_of x) f x.start (end_of x) q
    (between-from x.start x.first x.count x.kind) (omega arith) in (
      rest.0,
      rw (singles-more x rs) (find-right (singles_of x) (singles rs) f q none
          ∙ rest.1),
    )

pub get-inside : (rs : List Run) (f : Seen Mapping) (a b i q : ℕ)
    → AreApart a b rs → i < length rs → start_of rs i ≤ q → q < end_at rs i
    → (slot : ℕ) × (get (contents_by f (singles rs)) q ≡ Some (f slot (kind_at rs i)))
get-inside rs f a b i q h low le lt =
    let found = found-inside rs f a b i q h low le lt in (
      found.0,
      get-from_entries nat_cmp_total (entries_by f (singles rs)) q ∙ found.1,
    )

pub contains-inside : (rs : List Run) (f : Seen Mapping) (a b i q : ℕ)
    → AreApart a b rs → i < length rs → start_of rs i ≤ q → q < end_at rs i
    → contains_key (contents_by f (singles rs)) q ≡ true
contains-inside rs f a b i q h low le lt =
    ap is_some (get-inside rs f a b i q h low le lt).1

-- no run has the address
none-outside : (rs : List Run) (f : Seen Mapping) (q : ℕ)
    → ((i : ℕ) → i < length rs → (q < start_of rs i) ⊎ (end_at rs i ≤ q))
    → find nat_cmp q (entries_by f (singles rs)) ≡ None
none-outside [] f q h = rw (singles-none) refl
none-outside (x ∷ rs) f q h =
    let between = between-from x.start x.first x.count x.kind in
    let none : find nat_cmp q (entries_by f (singles_of x)) ≡ None =
    elim (h 0 (omega arith)) [
      | inl lt ↦ find-below (singles_of x) f x.start (end_of x) q between lt
      | inr le ↦ find-above (singles_of x) f x.start (end_of x) q between le
    ] in
    rw (singles-more x rs) (find-right (singles_of x) (singles rs) f q none
    ∙ none-outside rs f q (λ i lt. h (suc i) (omega arith)))

pub get-outside : (rs : List Run) (f : Seen Mapping) (q : ℕ)
    → ((i : ℕ) → i < length rs → (q < start_of rs i) ⊎ (end_at rs i ≤ q))
    → get (contents_by f (singles rs)) q ≡ None
get-outside rs f q h =
    get-from_entries nat_cmp_total (entries_by f (singles rs)) q ∙ none-outside rs f q h

-- an extent ends within the bound
pub end-within : (rs : List Run) (a b i : ℕ) (d : Run) → AreApart a b rs → i < length rs
    → end_of (get_or rs i d) ≤ b
end-within [] a b i d h lt = absurd (omega arith)
end-within (x ∷ rs) a b zero d h lt = apart-le rs (end_of x) b h.2
end-within (x ∷ rs) a b (suc i) d h lt = end-within rs (end_of x) b i d h.2 (omega arith)

pub not_empty : (rs : List Run) (a b i : ℕ) (d : Run) → AreApart a b rs → i < length rs
    → 0 < (get_or rs i d).count
not_empty [] a b i d h lt = absurd (omega arith)
not_empty (x ∷ rs) a b zero d h lt = h.1
not_empty (x ∷ rs) a b (suc i) d h lt = not_empty rs (end_of x) b i d h.2 (omega arith)

-- ---- Extents by their indexes

pub end_at-read : (rs : List Run) (i : ℕ) (r : Run) → i < length rs → r ≡ get_or rs i r
    → end_of r ≡ end_at rs i
end_at-read [] i r h e = absurd (omega arith)
end_at-read (x ∷ rs) zero r h e = ap end_of e
end_at-read (x ∷ rs) (suc i) r h e = end_at-read rs i r (omega arith) e

pub kind_at-read : (rs : List Run) (i : ℕ) (r : Run) → i < length rs → r ≡ get_or rs i r
    → kind_at rs i ≡ r.kind
kind_at-read [] i r h e = absurd (omega arith)
kind_at-read (x ∷ rs) zero r h e = sym (ap (λ (y : Run). y.kind) e)
kind_at-read (x ∷ rs) (suc i) r h e = kind_at-read rs i r (omega arith) e
