-- The number of mapped addresses of a range, from the runs.
use Rattle.std.proofs.Common.{◌≡◌, ℕ, ◌+◌, ◌-◌, ◌<◌, ◌≤◌, zero, suc, List, [], ◌∷◌, ◌++◌, take}
use Rattle.std.proofs.Common.{drop, arith, refl, sym, ap, ap₂, ◌∙◌, inl, inr, cond, Bool, true}
use Rattle.std.proofs.Common.{false, Some, Option}
use Rattle.std.proofs.lemmas.Bool.{cases_lt}
use Rattle.std.proofs.lemmas.List.Sums.{sum_by-cons}
use Rattle.std.specs.Cmp.{nat_cmp_total}
use Rattle.std.specs.FinMap as map
use Rattle.std.specs.List.{count_by, sum_by}
use Rattle.std.specs.Ordering.{nat_cmp, eq_by_cmp}
use Rattle.std.specs.Prelude.{is_some, min, max}
use Rattle.sg_store.specs.Disk.{Contents, Mapping, blocks, lies_in, max_capacity, used_among}
use Rattle.sg_table.specs.Draft.{Drafted}
use Rattle.sg_pool.specs.MappedRecords.{Seen, mapping_in, contents_by, contents_of}
use Rattle.sg_store.specs.Disk.{used_at}
use Rattle.sg_table.specs.Records.{single}
use Rattle.sg_pool.specs.Slots.{UnlinkedSlots}
use Rattle.sg_table.specs.declared.run.Kind.{Kind}
use Rattle.sg_table.specs.declared.run.Run.{Run}
use Rattle.sg_extent_map.specs.Gathering.{overlap, overlaps, AreGathered, end_index}
use Rattle.sg_extent_map.specs.Extents.{singles_from, singles_of, singles}
use Rattle.sg_pool.specs.Rising.{end_of, AreApart, AreBetween}
use Rattle.sg_store.proofs.DiskLemmas.{used_among-none, used_among-more, eq_other}
use Rattle.sg_store.proofs.DiskLemmas.{eq_same, inside, below, above, lies_in-none, count-more}
use Rattle.sg_pool.proofs.MappedLemmas.{none_used}
use Rattle.sg_extent_map.proofs.BetweenLemmas.{between-singles}
use Rattle.sg_pool.proofs.RisingLemmas.{between-low}
use Rattle.sg_pool.proofs.ContentsLemmas.{blocks-same, used_among-same}
use Rattle.sg_pool.proofs.ContentsLemmas.{get-middle}
use Rattle.sg_extent_map.proofs.SinglesLemmas.{singles-more, singles-none, singles-append}
use Rattle.sg_extent_map.proofs.SinglesLemmas.{count-append}

either_some : (b : Bool) (v : Mapping) (o : Option Mapping)
    → cond {A = ℕ} (is_some (cond b (Some v) o)) 1 0 ≡ cond b 1 (cond (is_some o) 1 0)
either_some true v o = refl
either_some false v o = refl

empty_at : (f : Seen Mapping) (q : ℕ) → used_at (contents_by f []) q ≡ 0
empty_at f q = none_used f [] q (λ j lt. absurd (omega arith))

empty_among : (f : Seen Mapping) (a k : ℕ) → used_among (contents_by f []) a k ≡ 0
empty_among f a zero = used_among-none (contents_by f []) a
empty_among f a (suc k) =
    let e : suc k ≡ k + 1 = omega arith in
    let rest = empty_among f a k in
    let more = used_among-more (contents_by f []) a k in
    let last = empty_at f (a + k) in
    rw e (omega arith)

-- one more address
at_insert : (m : Contents) (x q : ℕ) (v : Mapping)
    → used_at (map.insert m x v) q ≡ cond (eq_by_cmp nat_cmp q x) 1 (used_at m q)
at_insert m x q v = ap (λ o. cond (is_some o) 1 0) (map.get-insert nat_cmp_total m x v q)
    ∙ either_some (eq_by_cmp nat_cmp q x) v (map.get m q)

among_insert : (m : Contents) (x : ℕ) (v : Mapping) (a k : ℕ) → used_at m x ≡ 0
    → used_among (map.insert m x v) a k ≡ used_among m a k + cond (lies_in a k x) 1 0
among_insert m x v a zero none = used_among-none (map.insert m x v) a
    ∙ sym (ap₂ (λ n c. n + cond c 1 0) (used_among-none m a) (lies_in-none a x))
among_insert m x v a (suc k) none =
    let e : suc k ≡ k + 1 = omega arith in
    let rest = among_insert m x v a k none in
    let w = used_among-more (map.insert m x v) a k in
    let n = used_among-more m a k in
    let at = at_insert m x (a + k) v in
    rw e (elim (cases_lt x (a + k)) [
      | inl lt ↦
          let c : eq_by_cmp nat_cmp (a + k) x ≡ false =
          eq_other (a + k) x (λ same. absurd (omega arith)) in
          let here : used_at (map.insert m x v) (a + k) ≡ used_at m (a + k) = at
          ∙ ap (λ b. cond b 1 (used_at m (a + k))) c in
          let wide : cond {A = ℕ} (lies_in a (k + 1) x) 1 0 ≡ cond (lies_in a k x) 1 0 =
          elim (cases_lt x a) [
            | inl low ↦ rw (below a (k + 1) x low, below a k x low) refl
            | inr ge ↦ rw (inside a (k + 1) x ge (omega arith), inside a k x ge lt) refl
          ] in omega arith
      | inr ge ↦ elim (cases_lt (a + k) x) [
        | inl lt ↦
            let c : eq_by_cmp nat_cmp (a + k) x ≡ false =
            eq_other (a + k) x (λ same. absurd (omega arith)) in
            let here : used_at (map.insert m x v) (a + k) ≡ used_at m (a + k) = at
            ∙ ap (λ b. cond b 1 (used_at m (a + k))) c in
            let wide : cond {A = ℕ} (lies_in a (k + 1) x) 1 0 ≡ cond (lies_in a k x) 1 0 =
            rw (above a (k + 1) x (omega arith), above a k x (omega arith)) refl in omega arith
        | inr le ↦
            let same : a + k ≡ x = omega arith in
            let here : used_at (map.insert m x v) (a + k) ≡ 1 = at
            ∙ ap (λ b. cond b 1 (used_at m (a + k))) (eq_same (a + k) x same) in
            let not_yet : used_at m (a + k) ≡ 0 = ap (used_at m) same ∙ none in
            let new : cond {A = ℕ} (lies_in a (k + 1) x) 1 0 ≡ 1 =
            ap (λ b. cond b 1 0) (inside a (k + 1) x (omega arith) (omega arith)) in
            let old : cond {A = ℕ} (lies_in a k x) 1 0 ≡ 0 =
            ap (λ b. cond b 1 0) (above a k x (omega arith)) in omega arith
      ]
    ])

-- addresses that rise, one by one
among_count : (xs : List Run) (f : Seen Mapping) (low high a k : ℕ) → AreBetween low high xs
    → used_among (contents_by f xs) a k ≡ count_by (λ (x : Run). lies_in a k x.start) xs
among_count [] f low high a k h = empty_among f a k
among_count (x ∷ xs) f low high a k h =
    let none = none_used f xs x.start (λ j lt same. let up =
    between-low xs (x.start + 1) high j h.1 lt in absurd (omega arith)) in
    let rest = among_count xs f (x.start + 1) high a k h.1 in
    let more = among_insert (contents_by f xs) x.start
    (f x.first x.kind) a k none in
    let count = count-more (λ (x : Run). lies_in a k x.start) x xs in
    omega arith

-- the addresses of a run
overlap_step : (a k start n : ℕ) → cond (lies_in a k start) 1 0 +
    (min (start + 1 + n) (a + k) - max (start + 1) a) ≡ min (start + suc n) (a + k) - max start a
overlap_step a k start n = elim (cases_lt start a) [
  | inl lt ↦ rw (below a k start lt) (omega arith)
  | inr ge ↦ elim (cases_lt start (a + k)) [
    | inl lt ↦ rw (inside a k start ge lt) (omega arith)
    | inr beyond ↦ rw (above a k start beyond) (omega arith)
  ]
]

count_run : (a k start first n : ℕ) (kind : Kind)
    → count_by (λ (x : Run). lies_in a k x.start) (singles_from start first n kind) ≡
    min (start + n) (a + k) - max start a
unfolding singles_from
count_run a k start first zero kind = omega arith
count_run a k start first (suc n) kind =
    let rest = count_run a k (start + 1) (first + 1) n kind in
    let count = count-more (λ (x : Run). lies_in a k x.start) (single start first kind)
    (singles_from (start + 1) (first + 1) n kind) in
    let step = overlap_step a k start n in
    omega arith

count_apart : (a k : ℕ) (runs : List Run)
    → count_by (λ (x : Run). lies_in a k x.start) (singles runs) ≡
    sum_by (overlap a (a + k)) runs
count_apart a k [] = ap (count_by (λ (x : Run). lies_in a k x.start)) (singles-none)
count_apart a k (run ∷ runs) =
    let one = count_run a k run.start run.first run.count run.kind in
    let rest = count_apart a k runs in
    let both = ap (count_by (λ (x : Run). lies_in a k x.start)) (singles-more run runs)
    ∙ count-append (λ (x : Run). lies_in a k x.start) (singles_of run)
    (singles runs) in
    let sum = sum_by-cons (overlap a (a + k)) run runs in
    omega arith

pub mapped-overlap : (runs : List Run) (f : Seen Mapping) (low high a k : ℕ)
    → AreApart low high runs → used_among (contents_by f (singles runs)) a k ≡
    sum_by (overlap a (a + k)) runs
mapped-overlap runs f low high a k h = among_count (singles runs) f low high a k
    (between-singles runs low high h) ∙ count_apart a k runs

-- in the range the gathered runs have all the contents
pub get-gathered : (rs : List Run) (gathered : Drafted) (slots : UnlinkedSlots) (lba count q : ℕ)
    → AreGathered rs gathered lba (lba + count) → lba ≤ q → q < lba + count
    → map.get (contents_of (singles rs) slots.blocks) q
    ≡ map.get (contents_of (singles gathered.records) slots.blocks) q
get-gathered rs gathered slots lba count q g le lt =
    let xs : List Run = take gathered.from rs in let ys : List Run = drop (end_index gathered) rs in
    let parts : singles rs ≡ singles xs ++
    (singles gathered.records ++ singles ys)
    = ap (singles) (sym g.same) ∙ singles-append xs (gathered.records ++ ys)
    ∙ ap (λ zs. singles xs ++ zs)
    (singles-append gathered.records ys) in
    ap (λ zs. map.get (contents_of zs slots.blocks) q) parts
    ∙ get-middle (singles xs) (singles gathered.records)
    (singles ys) (mapping_in slots.blocks) 0 lba (lba + count) max_capacity q
    (between-singles xs 0 lba g.before) le
    (between-singles ys (lba + count) max_capacity
    g.after) (omega arith)

pub blocks-gathered : (rs : List Run) (gathered : Drafted) (slots : UnlinkedSlots) (lba count : ℕ)
    → AreGathered rs gathered lba (lba + count)
    → blocks (contents_of (singles rs) slots.blocks) lba count ≡
    blocks (contents_of (singles gathered.records) slots.blocks) lba count
blocks-gathered rs gathered slots lba count g =
    blocks-same _ _ lba count (λ q le lt. get-gathered rs gathered slots lba count q g le lt)

pub mapped-gathered : (rs : List Run) (gathered : Drafted) (slots : UnlinkedSlots) (lba count : ℕ)
    → AreGathered rs gathered lba (lba + count)
    → used_among (contents_of (singles rs) slots.blocks) lba count ≡
    used_among (contents_of (singles gathered.records) slots.blocks) lba count
mapped-gathered rs gathered slots lba count g =
    used_among-same _ _ lba count
    (λ q le lt. get-gathered rs gathered slots lba count q g le lt)

-- the number of addresses of the gathered extents that a range has
pub used-gathered : (rs : List Run) (gathered : Drafted) (slots : UnlinkedSlots) (lba count low high : ℕ)
    → AreGathered rs gathered lba (lba + count) → AreApart low high gathered.records
    → used_among (contents_of (singles rs) slots.blocks) lba count
    ≡ overlaps lba (lba + count) gathered.records
used-gathered rs gathered slots lba count low high g h =
    mapped-gathered rs gathered slots lba count g
    ∙ mapped-overlap gathered.records (mapping_in slots.blocks) low high lba count h

-- extents have no more addresses in a range than there are
pub overlaps-le : (runs : List Run) (a b low high : ℕ) → AreApart a b runs
    → overlaps low high runs + a ≤ b
overlaps-le [] a b low high h = omega (arith, h)
overlaps-le (run ∷ runs) a b low high h =
    let rest = overlaps-le runs (end_of run) b low high h.2 in
    let sum = sum_by-cons (overlap low high) run runs in
    omega (arith, h.0)
