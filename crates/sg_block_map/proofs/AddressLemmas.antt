-- The addresses of runs, and the order of the runs.
use Rattle.std.proofs.Common.{◌≡◌, ◌≢◌, ℕ, ◌+◌, ◌<◌, ◌≤◌, zero, suc, List, [], ◌∷◌, ◌++◌, length}
use Rattle.std.proofs.Common.{arith, refl, ap, ◌∙◌, ◌⊎◌, inl}
use Rattle.std.proofs.Common.{inr, cond, Bool, true, false, Option, Some, None}
use Rattle.std.proofs.lemmas.Bool.{cases_lt}
use Rattle.std.specs.Cmp.{nat_cmp_total}
use Rattle.std.specs.FinMap.{find, get, get-from_entries, contains_key}
use Rattle.std.specs.Ordering.{nat_cmp, eq_by_cmp}
use Rattle.std.specs.Prelude.{slice_index, is_some}
use Rattle.sg_store.specs.Disk.{Mapping}
use Rattle.sg_table.specs.Records.{start_of, same_kind}
use Rattle.sg_pool.specs.MappedRecords.{Seen, entries_by, contents_by}
use Rattle.sg_table.specs.declared.run.Kind.{Kind}
use Rattle.sg_table.specs.declared.run.Kind.TheVariants.{Data, Anchored}
use Rattle.sg_table.specs.declared.run.Run.{Run}
use Rattle.sg_block_map.specs.Gathering.{end_at}
use Rattle.sg_block_map.specs.Runs.{singles, singles_of, expanded, behind}
use Rattle.sg_pool.specs.Rising.{end_of, AreApart}
use Rattle.sg_block_map.specs.Runs.{Bound, AreMaximalIn}
use Rattle.sg_store.proofs.DiskLemmas.{eq_same, eq_other}
use Rattle.sg_block_map.proofs.BetweenLemmas.{between-singles}
use Rattle.sg_pool.proofs.RisingLemmas.{apart-le}
use Rattle.sg_pool.proofs.ContentsLemmas.{find-below, find-above, find-right}
use Rattle.sg_block_map.proofs.ExpandedLemmas.{expanded-more, expanded-none}

-- the kind of the run at an index
abbrev pub kind_at : List Run → ℕ → Kind
kind_at [] i = Data
kind_at (run ∷ records) zero = run.kind
kind_at (run ∷ records) (suc i) = kind_at records i

-- ---- The order of runs

apart-past : (rs : List Run) (a b j : ℕ) → AreApart a b rs → j < length rs → a ≤ start_of rs j
apart-past [] a b j h lt = absurd (omega arith)
apart-past (x ∷ rs) a b zero h lt = h.0
apart-past (x ∷ rs) a b (suc j) h lt = omega
    (arith, h.0, apart-past rs (end_of x) b j h.2 (omega arith))

pub apart-order : (rs : List Run) (a b i j : ℕ) → AreApart a b rs → i < j → j < length rs
    → end_at rs i ≤ start_of rs j
apart-order [] a b i j h lt low = absurd (omega arith)
apart-order (x ∷ rs) a b i zero h lt low = absurd (omega arith)
apart-order (x ∷ rs) a b zero (suc j) h lt low = apart-past rs (end_of x) b j h.2 (omega arith)
apart-order (x ∷ rs) a b (suc i) (suc j) h lt low =
    apart-order rs (end_of x) b i j h.2 (omega arith) (omega arith)

pub ends-within : (rs : List Run) (a b i : ℕ) → AreApart a b rs → i < length rs → end_at rs i ≤ b
ends-within [] a b i h lt = absurd (omega arith)
ends-within (x ∷ rs) a b zero h lt = apart-le rs (end_of x) b h.2
ends-within (x ∷ rs) a b (suc i) h lt = ends-within rs (end_of x) b i h.2 (omega arith)

pub apart-filled : (rs : List Run) (a b i : ℕ) → AreApart a b rs → i < length rs
    → start_of rs i < end_at rs i
apart-filled [] a b i h lt = absurd (omega arith)
apart-filled (x ∷ rs) a b zero h lt = omega (arith, h.1)
apart-filled (x ∷ rs) a b (suc i) h lt = apart-filled rs (end_of x) b i h.2 (omega arith)

-- if one run begins right after another, they have different kinds
other_kind : (k j : Kind) (n start : ℕ) → cond (same_kind j k) (n + 1) n ≤ start → start ≡ n → j ≢ k
other_kind Data Data n start h e same = absurd (omega arith)
other_kind Data Anchored n start h e same = cc
other_kind Anchored Data n start h e same = cc
other_kind Anchored Anchored n start h e same = absurd (omega arith)

pub kinds-differ : (rs : List Run) (low high : Bound) (i : ℕ) → AreMaximalIn low high rs
    → suc i < length rs → start_of rs (suc i) ≡ end_at rs i → kind_at rs (suc i) ≢ kind_at rs i
kinds-differ [] low high i h lt e = absurd (omega arith)
kinds-differ (x ∷ []) low high i h lt e = absurd (omega arith)
kinds-differ (x ∷ y ∷ rs) low high zero h lt e =
    other_kind x.kind y.kind (end_of x) y.start h.2.0 e
kinds-differ (x ∷ y ∷ rs) low high (suc i) h lt e =
    kinds-differ (y ∷ rs) (behind x) high i h.2 (omega arith) e

-- ---- The addresses of runs

left-some : (b : Bool) (u v : Mapping) (o p : Option Mapping) → (o ≡ Some v → p ≡ Some v)
    → cond b (Some u) o ≡ Some v → cond b (Some u) p ≡ Some v
left-some true u v o p f e = e
left-some false u v o p f e = f e

found-left : (xs ys : List Run) (f : Seen Mapping) (q : ℕ) (v : Mapping)
    → find nat_cmp q (entries_by f xs) ≡ Some v → find nat_cmp q (entries_by f (xs ++ ys)) ≡ Some v
found-left [] ys f q v e = cc
found-left (x ∷ xs) ys f q v e = left-some (eq_by_cmp nat_cmp q x.start) _ _ _ _
    (found-left xs ys f q v) e

found-single : (next : List ℕ) (f : Seen Mapping) (start first n : ℕ) (kind : Kind) (q : ℕ)
    → start ≤ q → q < start + n
    → (slot : ℕ) × (find nat_cmp q (entries_by f (singles next start first n kind))
    ≡ Some (f slot kind))
unfolding singles
found-single next f start first zero kind q le lt = absurd (omega arith)
found-single next f start first (suc n) kind q le lt = elim (cases_lt start q) [
  | inl below ↦
      let rest = found-single next f (start + 1) (slice_index next first) n kind q (omega arith)
      (omega arith) in
      let other : eq_by_cmp nat_cmp q start ≡ false =
      eq_other q start (λ same. absurd (omega arith)) in
      (rest.0, rw other rest.1)
  | inr here ↦ let same : eq_by_cmp nat_cmp q start ≡ true = eq_same q start (omega arith) in
      (first, rw same refl)
]

found-inside : (next : List ℕ) (rs : List Run) (f : Seen Mapping) (a b i q : ℕ)
    → AreApart a b rs → i < length rs → start_of rs i ≤ q → q < end_at rs i
    → (slot : ℕ) × (find nat_cmp q (entries_by f (expanded next rs)) ≡ Some (f slot (kind_at rs i)))
found-inside next [] f a b i q h low le lt = absurd (omega arith)
found-inside next (x ∷ rs) f a b zero q h low le lt =
    let one = found-single next f x.start x.first x.count x.kind q le lt in (
      one.0,
      rw (expanded-more next x rs) (found-left (singles_of next x) (expanded next rs) f q _ one.1),
    )
found-inside next (x ∷ rs) f a b (suc i) q h low le lt =
    let rest = found-inside next rs f (end_of x) b i q h.2 (omega arith) le lt in
    let past = apart-past rs (end_of x) b i h.2 (omega arith) in
    let none = find-above (singles_of next x) f x.start (end_of x) q
    (between-singles next x.start x.first x.count x.kind) (omega arith) in (
      rest.0,
      rw (expanded-more next x rs) (find-right (singles_of next x) (expanded next rs) f q none
          ∙ rest.1),
    )

pub get-inside : (next : List ℕ) (rs : List Run) (f : Seen Mapping) (a b i q : ℕ)
    → AreApart a b rs → i < length rs → start_of rs i ≤ q → q < end_at rs i
    → (slot : ℕ) × (get (contents_by f (expanded next rs)) q ≡ Some (f slot (kind_at rs i)))
get-inside next rs f a b i q h low le lt =
    let found = found-inside next rs f a b i q h low le lt in (
      found.0,
      get-from_entries nat_cmp_total (entries_by f (expanded next rs)) q ∙ found.1,
    )

pub contains-inside : (next : List ℕ) (rs : List Run) (f : Seen Mapping) (a b i q : ℕ)
    → AreApart a b rs → i < length rs → start_of rs i ≤ q → q < end_at rs i
    → contains_key (contents_by f (expanded next rs)) q ≡ true
contains-inside next rs f a b i q h low le lt =
    ap is_some (get-inside next rs f a b i q h low le lt).1

-- no run has the address
none-outside : (next : List ℕ) (rs : List Run) (f : Seen Mapping) (q : ℕ)
    → ((i : ℕ) → i < length rs → (q < start_of rs i) ⊎ (end_at rs i ≤ q))
    → find nat_cmp q (entries_by f (expanded next rs)) ≡ None
none-outside next [] f q h = rw (expanded-none next) refl
none-outside next (x ∷ rs) f q h =
    let between = between-singles next x.start x.first x.count x.kind in
    let none : find nat_cmp q (entries_by f (singles_of next x)) ≡ None =
    elim (h 0 (omega arith)) [
      | inl lt ↦ find-below (singles_of next x) f x.start (end_of x) q between lt
      | inr le ↦ find-above (singles_of next x) f x.start (end_of x) q between le
    ] in
    rw (expanded-more next x rs) (find-right (singles_of next x) (expanded next rs) f q none
    ∙ none-outside next rs f q (λ i lt. h (suc i) (omega arith)))

pub get-outside : (next : List ℕ) (rs : List Run) (f : Seen Mapping) (q : ℕ)
    → ((i : ℕ) → i < length rs → (q < start_of rs i) ⊎ (end_at rs i ≤ q))
    → get (contents_by f (expanded next rs)) q ≡ None
get-outside next rs f q h =
    get-from_entries nat_cmp_total (entries_by f (expanded next rs)) q ∙ none-outside next rs f q h
