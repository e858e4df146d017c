-- The laws of the visits of a store with a record for each maximal run.
use Rattle.std.specs.Prelude.{◌≡◌, ℕ, ◌+◌, ◌-◌, ◌<◌, ◌≤◌, suc, List, [], ◌∷◌, Bool, true, false}
use Rattle.std.specs.Prelude.{cond, T, ◌==◌, ◌&&◌, zero, max, is_some, Option, Some}
use Rattle.std.specs.Prelude.{None}
use Rattle.std.specs.List.{count_by}
use Rattle.std.specs.Ordering.{nat_cmp, is_lt, is_eq}
use Rattle.std.specs.Cmp.{ranked}
use Rattle.std.specs.declared.cmp.Ordering.TheVariants.{Less, Equal, Greater}
use Rattle.std.specs.FinMap.{entries, entries_sorted, is_sorted, find, get-entries}
use Rattle.std.specs.FinMap.{contains_key}
use Rattle.std.specs.FinMap.{nat_cmp-IsAntisymmetric}
use Rattle.std.proofs.Common.{arith, refl, sym, ap, ◌∙◌, ◌⊎◌, inl, inr}
use Rattle.std.proofs.lemmas.Bool.{cases_lt, eqb-true, and_parts, cond_both}
use Rattle.std.proofs.lemmas.Bool.Decides.{nat_tests}
use Rattle.sg_store.specs.Disk.{Contents, Mapping, lies_in, used_among}
use Rattle.sg_table.specs.Records.{same_kind}
use Rattle.sg_table.specs.declared.run.Kind.{Kind}
use Rattle.sg_store.proofs.DiskLemmas.{used_among-none, used_among-more, count-more, inside, below, above}
use Rattle.sg_pool.specs.MappedRecords.{kind_of}
use Rattle.sg_block_map.specs.MaximalRuns.{AddressRun, run_from, with_address}
use Rattle.sg_block_map.specs.MaximalRuns.{runs_of, runs, meets, meet}
use Rattle.sg_block_map.specs.RunCost.{block_price, block_least}

-- at most two more than the range has addresses

joined_one : (lba count a start n : ℕ) (j k : Kind) → start ≡ a + 1
    → cond {A = ℕ} (meets lba count (run_from a (n + 1) j)) 1 0
    ≤ cond (lies_in lba count a) 1 0 + cond (meets lba count (run_from start n k)) 1 0
joined_one lba count a start n j k e = grind (arith, nat_tests)

alone_meets : (lba count a : ℕ) (k : Kind) → cond {A = ℕ} (meets lba count (run_from a 1 k)) 1 0
    ≤ cond (lies_in lba count a) 1 0
alone_meets lba count a k = grind (arith, nat_tests)

-- A law of runs with an address before them, in two cases: the address is joined to the first run,
-- or it is not.
pub by_joining : (P : List AddressRun → Type 0) (a : ℕ) (k : Kind) (run : AddressRun)
    (rs : List AddressRun)
    → (run.start ≡ a + 1 → same_kind k run.kind ≡ true → P (run_from a (run.count + 1) k ∷ rs))
    → ((run.start == a + 1 && same_kind k run.kind) ≡ false → P (run_from a 1 k ∷ run ∷ rs))
    → P (with_address a k (run ∷ rs))
by_joining P a k run rs joins apart =
    let joined = run.start == a + 1 && same_kind k run.kind in
    cond_both joined (run_from a (run.count + 1) k ∷ rs) (run_from a 1 k ∷ run ∷ rs) P
    (λ e. let both = and_parts (run.start == a + 1) (same_kind k run.kind) e in
    joins (eqb-true run.start (a + 1) both.0) both.1)
    apart

with_meets : (lba count a : ℕ) (k : Kind) (rs : List AddressRun)
    → count_by (meets lba count) (with_address a k rs)
    ≤ cond (lies_in lba count a) 1 0 + count_by (meets lba count) rs
with_meets lba count a k [] = omega (
  arith,
  alone_meets lba count a k,
  count-more (meets lba count) (run_from a 1 k) [],
)
with_meets lba count a k (run ∷ rs) = by_joining
    (λ xs. count_by (meets lba count) xs
    ≤ cond (lies_in lba count a) 1 0 + count_by (meets lba count) (run ∷ rs))
    a k run rs
    (λ start _. omega (
      arith,
      joined_one lba count a run.start run.count k run.kind start,
      count-more (meets lba count) (run_from a (run.count + 1) k) rs,
      count-more (meets lba count) run rs,
    ))
    (λ _. omega (
      arith,
      alone_meets lba count a k,
      count-more (meets lba count) (run_from a 1 k) (run ∷ rs),
      count-more (meets lba count) run rs,
    ))

abbrev in_range : (lba count : ℕ) → ℕ × Mapping → Bool
in_range lba count entry = lies_in lba count entry.0

runs_meet : (lba count : ℕ) (es : List (ℕ × Mapping))
    → count_by (meets lba count) (runs_of es) ≤ count_by (in_range lba count) es
runs_meet lba count [] = omega arith
runs_meet lba count (e ∷ es) = omega (
  arith,
  with_meets lba count e.0 (kind_of e.1) (runs_of es),
  runs_meet lba count es,
  count-more (in_range lba count) e es,
)

-- entries whose addresses rise
abbrev pub AreRising : ℕ → List (ℕ × Mapping) → Type 0
AreRising low [] = Unit
AreRising low (e ∷ es) = (low ≤ e.0) × AreRising (e.0 + 1) es

in_step : (lba count low x rest : ℕ) → low ≤ x → rest ≤ lba + count - max (x + 1) lba
    → cond (lies_in lba count x) 1 0 + rest ≤ lba + count - max low lba
in_step lba count low x rest le h = elim (cases_lt x lba) [
  | inl lt ↦ rw (below lba count x lt) (omega arith)
  | inr ge ↦ elim (cases_lt x (lba + count)) [
    | inl lt ↦ rw (inside lba count x ge lt) (omega arith)
    | inr beyond ↦ rw (above lba count x beyond) (omega arith)
  ]
]

in-range-le : (lba count low : ℕ) (es : List (ℕ × Mapping)) → AreRising low es
    → count_by (in_range lba count) es ≤ lba + count - max low lba
in-range-le lba count low [] h = omega arith
in-range-le lba count low (e ∷ es) h = let s =
    in_step lba count low e.0 (count_by (in_range lba count) es) h.0
    (in-range-le lba count (e.0 + 1) es h.1) in omega (arith, s, count-more (in_range lba count) e es)

both_true : (a b : Bool) → T (a && b) → T a × T b
both_true true b h = (tt, h)
both_true false b h = absurd h

is_less : (x y : ℕ) → T (is_lt (nat_cmp x y)) → x < y
is_less x y = elim (nat_cmp x y) as (λ r. nat_cmp x y ≡ r → T (is_lt r) → x < y) [
  | Less ↦ λ e _. ranked x y Less (sym e)
  | Equal ↦ λ _ h. absurd h
  | Greater ↦ λ _ h. absurd h
] refl

abbrev head_or : List (ℕ × Mapping) → ℕ → ℕ
head_or [] x = x
head_or (e ∷ es) x = e.0

pub rising : (low : ℕ) (es : List (ℕ × Mapping)) → T (is_sorted nat_cmp es)
    → ((e : ℕ × Mapping) (more : List (ℕ × Mapping)) → es ≡ e ∷ more → low ≤ e.0)
    → AreRising low es
rising low [] h first = tt
rising low (e ∷ []) h first = (first e [] refl, tt)
rising low (e ∷ f ∷ es) h first =
    let sorted = both_true _ _ h in
    let less = is_less e.0 f.0 (both_true _ _ sorted.0).0 in (
      first e (f ∷ es) refl,
      rising (e.0 + 1) (f ∷ es) sorted.1
          (λ g more same. let is = ap (λ xs. head_or xs e.0) same in omega arith),
    )

-- A call over a range visits at most two records more than the range has addresses.
pub block_price-within : (contents : Contents) (lba count : ℕ)
    → block_price contents lba count ≤ count + 2
unfolding meet runs
block_price-within contents lba count =
    let a = runs_meet lba count (entries contents) in
    let b = in-range-le lba count 0 (entries contents)
    (rising 0 (entries contents) (entries_sorted contents) (λ e more same. omega arith)) in
    omega arith

-- at least one if an address of the range has a slot

first_meets : (lba count a n : ℕ) (k : Kind) → lies_in lba count a ≡ true
    → cond {A = ℕ} (meets lba count (run_from a (n + 1) k)) 1 0 ≡ 1
first_meets lba count a n k e = grind (arith, nat_tests)

lone_meets : (lba count a : ℕ) (k : Kind) → lies_in lba count a ≡ true
    → cond {A = ℕ} (meets lba count (run_from a 1 k)) 1 0 ≡ 1
lone_meets lba count a k e = grind (arith, nat_tests)

wider_meets : (lba count a start n : ℕ) (j k : Kind) → start ≡ a + 1
    → cond {A = ℕ} (meets lba count (run_from start n k)) 1 0
    ≤ cond (meets lba count (run_from a (n + 1) j)) 1 0
wider_meets lba count a start n j k e = grind (arith, nat_tests)

here-meets : (lba count a : ℕ) (k : Kind) (rs : List AddressRun) → lies_in lba count a ≡ true
    → 0 < count_by (meets lba count) (with_address a k rs)
here-meets lba count a k [] e = omega (
  arith,
  lone_meets lba count a k e,
  count-more (meets lba count) (run_from a 1 k) [],
)
here-meets lba count a k (run ∷ rs) e = by_joining (λ xs. 0 < count_by (meets lba count) xs)
    a k run rs
    (λ _ _. omega (
      arith,
      first_meets lba count a run.count k e,
      count-more (meets lba count) (run_from a (run.count + 1) k) rs,
    ))
    (λ _. omega (
      arith,
      lone_meets lba count a k e,
      count-more (meets lba count) (run_from a 1 k) (run ∷ rs),
    ))

more-meet : (lba count a : ℕ) (k : Kind) (rs : List AddressRun)
    → count_by (meets lba count) rs ≤ count_by (meets lba count) (with_address a k rs)
more-meet lba count a k [] = omega (arith, count-more (meets lba count) (run_from a 1 k) [])
more-meet lba count a k (run ∷ rs) = by_joining
    (λ xs. count_by (meets lba count) (run ∷ rs) ≤ count_by (meets lba count) xs)
    a k run rs
    (λ start _. omega (
      arith,
      wider_meets lba count a run.start run.count k run.kind start,
      count-more (meets lba count) (run_from a (run.count + 1) k) rs,
      count-more (meets lba count) run rs,
    ))
    (λ _. omega (arith, count-more (meets lba count) (run_from a 1 k) (run ∷ rs)))

is_none : (o : Option Mapping) → o ≡ None → is_some o ≡ true → ⊥
is_none o e s = let wrong = ap is_some (sym e) ∙ s in cc

key-meets : (lba count q : ℕ) (es : List (ℕ × Mapping)) → lies_in lba count q ≡ true
    → is_some (find nat_cmp q es) ≡ true → 0 < count_by (meets lba count) (runs_of es)
key-meets lba count q [] lies = λ e. absurd (is_none None refl e)
key-meets lba count q (entry ∷ es) lies = elim (nat_cmp q entry.0) as (λ r. nat_cmp q entry.0 ≡ r
    → is_some (cond (is_eq r) (Some entry.1) (find nat_cmp q es)) ≡ true
    → 0 < count_by (meets lba count) (with_address entry.0 (kind_of entry.1) (runs_of es))) [
      | Less ↦ λ _ e. let rest = key-meets lba count q es lies e in
          omega (arith, rest, more-meet lba count entry.0 (kind_of entry.1) (runs_of es))
      | Equal ↦ λ same _. here-meets lba count entry.0 (kind_of entry.1) _
          (ap (lies_in lba count) (sym (nat_cmp-IsAntisymmetric q entry.0 same)) ∙ lies)
      | Greater ↦ λ _ e. let rest = key-meets lba count q es lies e in
          omega (arith, rest, more-meet lba count entry.0 (kind_of entry.1) (runs_of es))
    ] refl

used_or_less : (b : Bool) (n : ℕ) → 0 < n + cond b 1 0 → (0 < n) ⊎ (b ≡ true)
used_or_less true n h = inr refl
used_or_less false n h = inl (omega (arith, h))

used-meets : (contents : Contents) (lba count n : ℕ) → n ≤ count → 0 < used_among contents lba n
    → 0 < meet contents lba count
unfolding meet runs
used-meets contents lba count zero le some =
    absurd (omega (arith, some, used_among-none contents lba))
used-meets contents lba count (suc n) le some =
    let e : suc n ≡ n + 1 = omega arith in
    let more = used_among-more contents lba n in
    elim (used_or_less (contains_key contents (lba + n)) (used_among contents lba n)
    (omega (arith, ap (used_among contents lba) e))) [
      | inl before ↦ used-meets contents lba count n (omega arith) before
      | inr here ↦ key-meets lba count (lba + n) (entries contents)
          (inside lba count (lba + n) (omega arith) (omega arith))
          (ap is_some (sym (get-entries contents (lba + n))) ∙ here)
    ]

-- If an address of the range has a slot, the call visits at least one record.
pub block_least-positive : (contents : Contents) (lba count : ℕ)
    → 0 < used_among contents lba count → 0 < block_least contents lba count
block_least-positive contents lba count some = used-meets contents lba count count (omega arith) some

-- An item that passes one test passes one of two others.
count-two : {X : Type 0} (p q r : X → Bool) (xs : List X)
    → ((x : X) → cond {A = ℕ} (p x) 1 0 ≤ cond (q x) 1 0 + cond (r x) 1 0)
    → count_by p xs ≤ count_by q xs + count_by r xs
count-two p q r [] h = omega arith
count-two p q r (x ∷ xs) h = omega (
  arith,
  h x,
  count-two p q r xs h,
  count-more p x xs,
  count-more q x xs,
  count-more r x xs,
)

joined_range : (a n offset more : ℕ) → offset ≤ n → (run : AddressRun)
    → cond {A = ℕ} (meets a (max n (offset + more)) run) 1 0
    ≤ cond (meets a n run) 1 0 + cond (meets (a + offset) more run) 1 0
joined_range a n offset more le run = grind (arith, nat_tests)

-- If two ranges overlap or touch, the joined range costs at most as much as both together.
pub block_price-joined : (contents : Contents) (lba count offset more : ℕ) → offset ≤ count
    → block_price contents lba (max count (offset + more))
    ≤ block_price contents lba count + block_price contents (lba + offset) more
unfolding meet
block_price-joined contents lba count offset more le =
    let n = count-two (meets lba (max count (offset + more))) (meets lba count)
    (meets (lba + offset) more) (runs contents) (joined_range lba count offset more le) in
    omega arith
