-- The maximal runs, address by address.
use Rattle.std.proofs.Common.{◌≡◌, ℕ, ◌+◌, ◌-◌, ◌<◌, ◌≤◌, zero, suc, List, [], ◌∷◌, length, Option}
use Rattle.std.proofs.Common.{arith, refl, sym, ap, ap₂, ◌∙◌, inl, inr, Bool, true, false, cond}
use Rattle.std.proofs.Common.{Some}
use Rattle.std.proofs.Math.Bool.{and-or_distrib_right, or-false, or_assoc}
use Rattle.std.proofs.lemmas.Bool.{and_from, and_left, and_right, cases_lt, eqb-true, or_parts}
use Rattle.std.proofs.lemmas.Bool.{or_right}
use Rattle.std.proofs.lemmas.Bool.Decides.{nat_tests}
use Rattle.std.specs.Prelude.{◌==◌, ◌&&◌, ◌||◌, slice_index_or}
use Rattle.std.specs.List.{list_any, Contains}
use Rattle.std.specs.Ordering.{nat_cmp, eq_by_cmp}
use Rattle.std.specs.Cmp.{unsigned_tied}
use Rattle.std.specs.FinMap.{find, get-entries, entries, entries_sorted}
use Rattle.sg_store.specs.Disk.{Contents, Mapping, lies_in}
use Rattle.sg_table.specs.Records.{same_kind}
use Rattle.sg_table.specs.declared.run.Kind.{Kind}
use Rattle.sg_table.specs.declared.run.Kind.TheVariants.{Data as DataRun, Anchored as AnchoredRun}
use Rattle.sg_pool.specs.MappedRecords.{kind_of}
use Rattle.sg_block_map.specs.MaximalRuns.{AddressRun, run_end, run_from}
use Rattle.sg_block_map.specs.MaximalRuns.{with_address, runs_of, runs}
use Rattle.sg_block_map.specs.RunLaws.{is_kind, has_kind, HasExactlyTheMaximalRuns, RunsRise}
use Rattle.sg_block_map.specs.RunCostLaws.{AreRising, by_joining, rising}
use Rattle.sg_block_map.specs.Runs.{Bound, any_from}
use Rattle.sg_store.proofs.DiskLemmas.{inside, below, above}
use Rattle.sg_block_map.proofs.OrderLemmas.{IsNarrow, narrow-any, one_more-low, one_more-high}
use Rattle.sg_table.proofs.RecordLemmas.{alike, own_kind}

-- ---- The runs rise, and none could be joined to the next

abbrev behind_it : AddressRun → Bound
behind_it run kind = cond (same_kind kind run.kind) (run_end run + 1) (run_end run)

abbrev Rise : Bound → List AddressRun → Type 0
Rise low [] = Unit
Rise low (run ∷ rs) = (low run.kind ≤ run.start) × (0 < run.count) × Rise (behind_it run) rs

-- if an address is not joined to a run, the run begins after it
past : (x start : ℕ) (j k : Kind) → x + 1 ≤ start → (start == x + 1 && same_kind j k) ≡ false
    → cond (same_kind k j) (x + 1 + 1) (x + 1) ≤ start
past x start DataRun DataRun le e = apart (x + 1) start le e
  where
    apart : (m n : ℕ) → m ≤ n → (n == m && true) ≡ false → m + 1 ≤ n
    apart m n le e = grind (arith, nat_tests)
past x start DataRun AnchoredRun le e = le
past x start AnchoredRun DataRun le e = le
past x start AnchoredRun AnchoredRun le e = apart (x + 1) start le e
  where
    apart : (m n : ℕ) → m ≤ n → (n == m && true) ≡ false → m + 1 ≤ n
    apart m n le e = grind (arith, nat_tests)

rise-address : (low : Bound) (x : ℕ) (k : Kind) (rs : List AddressRun) → low k ≤ x
    → Rise (any_from (x + 1)) rs → Rise low (with_address x k rs)
rise-address low x k [] le h = (le, omega arith, tt)
rise-address low x k (run ∷ rs) le h = by_joining (Rise low) x k run rs
    (λ start same.
    let on : run_end run ≡ x + (run.count + 1) = omega (arith, start) in (
      le,
      omega arith,
      same_rise rs run.kind k (run_end run) (x + (run.count + 1))
          (sym (alike k run.kind same)) on h.2,
    ))
    (λ e. (le, omega arith, (past x run.start k run.kind h.0 e, h.1, h.2)))
  where
    same_rise : (rs : List AddressRun) (j k : Kind) (m n : ℕ) → j ≡ k → m ≡ n
        → Rise (λ kind. cond (same_kind kind j) (m + 1) m) rs
        → Rise (λ kind. cond (same_kind kind k) (n + 1) n) rs
    same_rise rs j k m n e f h = rw (e, f) at h

rise-runs : (low : ℕ) (es : List (ℕ × Mapping)) → AreRising low es → Rise (any_from low) (runs_of es)
rise-runs low [] h = tt
rise-runs low (e ∷ es) h =
    rise-address (any_from low) e.0 (kind_of e.1) (runs_of es) h.0 (rise-runs (e.0 + 1) es h.1)

all-rising : (m : Contents) → AreRising 0 (entries m)
all-rising m = rising 0 (entries m) (entries_sorted m) (λ e more same. omega arith)

all-rise : (m : Contents) → Rise (any_from 0) (runs m)
unfolding runs
all-rise m = rise-runs 0 (entries m) (all-rising m)

behind_low : (run : AddressRun) (kind : Kind) → run_end run ≤ behind_it run kind
behind_low run kind = one_more-low (same_kind kind run.kind) (run_end run)

behind_high : (run : AddressRun) (kind : Kind) → behind_it run kind ≤ run_end run + 1
behind_high run kind = one_more-high (same_kind kind run.kind) (run_end run)

narrow_behind : (run : AddressRun) → IsNarrow (behind_it run)
narrow_behind run j k = omega (arith, behind_high run j, behind_low run k)

module _ (d : AddressRun) where
  abbrev at : List AddressRun → ℕ → AddressRun
  at rs i = slice_index_or rs i d

  rise-low : (low : Bound) (a : ℕ) (rs : List AddressRun) (j : ℕ) → ((k : Kind) → a ≤ low k)
      → Rise low rs → j < length rs → a ≤ (at rs j).start
  rise-low low a [] j le h lt = absurd (omega arith)
  rise-low low a (r ∷ rs) zero le h lt = omega (arith, le r.kind, h.0)
  rise-low low a (r ∷ rs) (suc j) le h lt = rise-low (behind_it r) a rs j
      (λ k. omega (arith, behind_low r k, le r.kind, h.0)) h.2 (omega arith)

  rise-order : (low : Bound) (rs : List AddressRun) (i j : ℕ) → Rise low rs → i < j → j < length rs
      → run_end (at rs i) ≤ (at rs j).start
  rise-order low [] i j h lt within = absurd (omega arith)
  rise-order low (r ∷ rs) i zero h lt within = absurd (omega arith)
  rise-order low (r ∷ rs) zero (suc j) h lt within =
      rise-low (behind_it r) (run_end r) rs j (λ k. behind_low r k) h.2 (omega arith)
  rise-order low (r ∷ rs) (suc i) (suc j) h lt within =
      rise-order (behind_it r) rs i j h.2 (omega arith) (omega arith)

pub runs-rise : RunsRise
runs-rise m i j d lt within = rise-order d (any_from 0) (runs m) i j (all-rise m) lt within

-- ---- The addresses that the list covers

-- whether a run, or one of several runs, has an address and is of a kind
abbrev has : Kind → ℕ → AddressRun → Bool
has k a run = lies_in run.start run.count a && same_kind k run.kind

abbrev covers : Kind → List AddressRun → ℕ → Bool
covers k rs a = list_any (has k a) rs

or_past : (b c : Bool) → b ≡ false → (b || c) ≡ c
or_past b c e = ap (λ x. x || c) e

-- an address before the runs of a kind
has_none : (k : Kind) (low : Bound) (r : AddressRun) (a : ℕ) → low r.kind ≤ r.start → a < low k
    → has k a r ≡ false
has_none k low r a le lt = by_kind (same_kind k r.kind) refl
  where
    by_kind : (b : Bool) → same_kind k r.kind ≡ b → has k a r ≡ false
    by_kind false e = and_right (lies_in r.start r.count a) (same_kind k r.kind) e
    by_kind true e = and_left (lies_in r.start r.count a) (same_kind k r.kind)
        (below r.start r.count a (omega (arith, le, lt, ap low (alike k r.kind e))))

covers-below : (k : Kind) (low : Bound) (rs : List AddressRun) (a : ℕ) → IsNarrow low → Rise low rs
    → a < low k → covers k rs a ≡ false
covers-below k low [] a narrow h lt = refl
covers-below k low (r ∷ rs) a narrow h lt =
    or_past (has k a r) (covers k rs a) (has_none k low r a h.0 lt)
    ∙ covers-below k (behind_it r) rs a (narrow_behind r) h.2
    (omega (arith, h.0, h.1, narrow k r.kind, behind_low r k))

one_lies : (x a : ℕ) → lies_in x 1 a ≡ (a == x)
one_lies x a = grind (arith, nat_tests)

more_lies : (x n a : ℕ) → lies_in x (n + 1) a ≡ ((a == x) || lies_in (x + 1) n a)
more_lies x n a = grind (arith, nat_tests)

covers-address : (k : Kind) (x a : ℕ) (kx : Kind) (rs : List AddressRun)
    → covers k (with_address x kx rs) a ≡ (((a == x) && same_kind k kx) || covers k rs a)
covers-address k x a kx [] = ap (λ b. (b && same_kind k kx) || false) (one_lies x a)
covers-address k x a kx (run ∷ rs) = by_joining
    (λ xs. covers k xs a ≡ (((a == x) && same_kind k kx) || covers k (run ∷ rs) a))
    x kx run rs
    (λ start same.
    ap (λ b. b || covers k rs a)
    (ap (λ b. b && same_kind k kx) (more_lies x run.count a)
    ∙ and-or_distrib_right (a == x) (lies_in (x + 1) run.count a) (same_kind k kx))
    ∙ or_assoc ((a == x) && same_kind k kx) (lies_in (x + 1) run.count a && same_kind k kx)
    (covers k rs a)
    ∙ ap₂ (λ s j. ((a == x) && same_kind k kx) || ((lies_in s run.count a && same_kind k j)
    || covers k rs a)) (sym start) (alike kx run.kind same))
    (λ _. ap (λ b. (b && same_kind k kx) || covers k (run ∷ rs) a) (one_lies x a))

seen_by : (b s c : Bool) (o : Option Mapping) (k : Kind) (m : Mapping) → s ≡ same_kind k (kind_of m)
    → (b ≡ true → c ≡ false) → is_kind k o ≡ c
    → is_kind k (cond b (Some m) o) ≡ ((b && s) || c)
seen_by true s c o k m is none rest =
    sym is ∙ sym (ap (λ b. s || b) (none refl) ∙ or-false s)
seen_by false s c o k m is none rest = rest

covers-entries : (k : Kind) (low a : ℕ) (es : List (ℕ × Mapping)) → AreRising low es
    → is_kind k (find nat_cmp a es) ≡ covers k (runs_of es) a
covers-entries k low a [] h = refl
covers-entries k low a (e ∷ es) h =
    seen_by (eq_by_cmp nat_cmp a e.0) (same_kind k (kind_of e.1)) (covers k (runs_of es) a)
    (find nat_cmp a es) k e.1 refl
    (λ same. let here = eqb-true a e.0 (sym (unsigned_tied a e.0) ∙ same) in
    covers-below k (any_from (e.0 + 1)) (runs_of es) a (λ i j. omega arith)
    (rise-runs (e.0 + 1) es h.1) (omega (arith, here)))
    (covers-entries k (e.0 + 1) a es h.1)
    ∙ ap (λ b. (b && same_kind k (kind_of e.1)) || covers k (runs_of es) a) (unsigned_tied a e.0)
    ∙ sym (covers-address k e.0 a (kind_of e.1) (runs_of es))

covers-runs : (m : Contents) (k : Kind) (a : ℕ) → has_kind m k a ≡ covers k (runs m) a
unfolding runs
covers-runs m k a = ap (is_kind k) (get-entries m a) ∙ covers-entries k 0 a (entries m) (all-rising m)

-- ---- Each of them is maximal

own_behind : (run : AddressRun) (k : Kind) → run.kind ≡ k → behind_it run k ≡ run_end run + 1
own_behind run k e = rw e (ap (λ b. cond b (run_end run + 1) (run_end run)) (own_kind k))

module _ (s n : ℕ) (k : Kind) where
  abbrev run : AddressRun
  run = run_from s n k

  covers-inside : (rs : List AddressRun) (i : ℕ) → i < length rs
      → slice_index_or rs i run ≡ run
      → (a : ℕ) → s ≤ a → a < s + n → covers k rs a ≡ true
  covers-inside [] i lt is a ge high = absurd (omega arith)
  covers-inside (r ∷ rs) zero lt is a ge high =
      let start = ap (λ (x : AddressRun). x.start) is in
      let count = ap (λ (x : AddressRun). x.count) is in
      let kind = ap (λ (x : AddressRun). x.kind) is in
      ap (λ b. b || covers k rs a) (and_from (lies_in r.start r.count a) (same_kind k r.kind)
      (inside r.start r.count a (omega (arith, start)) (omega (arith, start, count)))
      (ap (same_kind k) kind ∙ own_kind k))
  covers-inside (r ∷ rs) (suc i) lt is a ge high =
      or_right (has k a r) (covers k rs a) (covers-inside rs i (omega arith) is a ge high)

  found-low : (low : Bound) (rs : List AddressRun) (i : ℕ) → IsNarrow low → Rise low rs
      → i < length rs → slice_index_or rs i run ≡ run → (low k ≤ s) × (0 < n)
  found-low low [] i narrow h lt is = absurd (omega arith)
  found-low low (r ∷ rs) zero narrow h lt is = (
    omega (arith, h.0, ap (λ (x : AddressRun). x.start) is, ap (λ (x : AddressRun). low x.kind) is),
    omega (arith, h.1, ap (λ (x : AddressRun). x.count) is),
  )
  found-low low (r ∷ rs) (suc i) narrow h lt is =
      let more = found-low (behind_it r) rs i (narrow_behind r) h.2 (omega arith) is in
      (omega (arith, more.0, h.0, h.1, narrow k r.kind, behind_low r k), more.1)

  covers-behind : (low : Bound) (rs : List AddressRun) (i : ℕ) → IsNarrow low → Rise low rs
      → i < length rs → slice_index_or rs i run ≡ run → covers k rs (s + n) ≡ false
  covers-behind low [] i narrow h lt is = absurd (omega arith)
  covers-behind low (r ∷ rs) zero narrow h lt is =
      let start = ap (λ (x : AddressRun). x.start) is in
      let count = ap (λ (x : AddressRun). x.count) is in
      let own = own_behind r k (ap (λ (x : AddressRun). x.kind) is) in
      or_past (has k (s + n) r) (covers k rs (s + n))
      (and_left (lies_in r.start r.count (s + n)) (same_kind k r.kind)
      (above r.start r.count (s + n) (omega (arith, start, count))))
      ∙ covers-below k (behind_it r) rs (s + n) (narrow_behind r) h.2
      (omega (arith, start, count, own))
  covers-behind low (r ∷ rs) (suc i) narrow h lt is =
      let more = found-low (behind_it r) rs i (narrow_behind r) h.2 (omega arith) is in
      or_past (has k (s + n) r) (covers k rs (s + n))
      (and_left (lies_in r.start r.count (s + n)) (same_kind k r.kind)
      (above r.start r.count (s + n) (omega (arith, more.0, behind_low r k))))
      ∙ covers-behind (behind_it r) rs i (narrow_behind r) h.2 (omega arith) is

  covers-before : (low : Bound) (rs : List AddressRun) (i : ℕ) → IsNarrow low → Rise low rs
      → i < length rs → slice_index_or rs i run ≡ run → 0 < s
      → covers k rs (s - 1) ≡ false
  covers-before low [] i narrow h lt is pos = absurd (omega arith)
  covers-before low (r ∷ rs) zero narrow h lt is pos =
      let start = ap (λ (x : AddressRun). x.start) is in
      let count = ap (λ (x : AddressRun). x.count) is in
      or_past (has k (s - 1) r) (covers k rs (s - 1))
      (and_left (lies_in r.start r.count (s - 1)) (same_kind k r.kind)
      (below r.start r.count (s - 1) (omega (arith, start, pos))))
      ∙ covers-below k (behind_it r) rs (s - 1) (narrow_behind r) h.2
      (omega (arith, start, pos, behind_low r k))
  covers-before low (r ∷ rs) (suc i) narrow h lt is pos =
      let more = found-low (behind_it r) rs i (narrow_behind r) h.2 (omega arith) is in
      or_past (has k (s - 1) r) (covers k rs (s - 1)) (at_end (same_kind k r.kind) refl more.0)
      ∙ covers-before (behind_it r) rs i (narrow_behind r) h.2 (omega arith) is pos
    where
      at_end : (b : Bool) → same_kind k r.kind ≡ b → behind_it r k ≤ s → has k (s - 1) r ≡ false
      at_end false e le = and_right (lies_in r.start r.count (s - 1)) (same_kind k r.kind) e
      at_end true e le = and_left (lies_in r.start r.count (s - 1)) (same_kind k r.kind)
          (above r.start r.count (s - 1)
          (omega (arith, le, own_behind r k (sym (alike k r.kind e)))))

  -- ---- And the list has each maximal run

  found : (low : Bound) (rs : List AddressRun) → IsNarrow low → Rise low rs → 0 < n
      → ((a : ℕ) → s ≤ a → a < s + n → covers k rs a ≡ true)
      → (0 < s → covers k rs (s - 1) ≡ false) → covers k rs (s + n) ≡ false
      → Contains rs run
  found low [] narrow h some all first last =
      let wrong = all s (omega arith) (omega arith) in cc
  found low (r ∷ rs) narrow h some all first last = elim (cases_lt s (run_end r)) [
    | inl high ↦
        let later : covers k rs s ≡ false = covers-below k (behind_it r) rs s (narrow_behind r) h.2
        (omega (arith, behind_low r k)) in
        in_run (same_kind k r.kind) refl high later
    | inr past ↦
        let none : (a : ℕ) → s ≤ a → has k a r ≡ false = λ a ge.
        and_left (lies_in r.start r.count a) (same_kind k r.kind)
        (above r.start r.count a (omega arith)) in
        let rest : Contains rs run = found (behind_it r) rs (narrow_behind r) h.2 some
        (λ a ge lt. sym (or_past (has k a r) (covers k rs a) (none a ge)) ∙ all a ge lt)
        (λ pos. (or_parts (has k (s - 1) r) (covers k rs (s - 1)) (first pos)).1)
        (or_parts (has k (s + n) r) (covers k rs (s + n)) last).1 in
        (suc rest.0, omega (arith, rest.1), rest.2)
  ]
    where
      same : r.start ≡ s → r.count ≡ n → r.kind ≡ k → r ≡ run
      same a b c = ap₂ (λ x y. run_from x y r.kind) a b ∙ ap (run_from s n) c

      in_run : (b : Bool) → same_kind k r.kind ≡ b → s < run_end r → covers k rs s ≡ false
          → Contains (r ∷ rs) run
      in_run false e high later =
          let none = or_past (has k s r) (covers k rs s)
          (and_right (lies_in r.start r.count s) (same_kind k r.kind) e) ∙ later in
          let wrong : true ≡ false = sym (all s (omega arith) (omega arith)) ∙ none in cc
      in_run true e high later = elim (cases_lt s r.start) [
        | inl low' ↦
            let none = or_past (has k s r) (covers k rs s)
            (and_left (lies_in r.start r.count s) (same_kind k r.kind)
            (below r.start r.count s low')) ∙ later in
            let wrong : true ≡ false = sym (all s (omega arith) (omega arith)) ∙ none in cc
        | inr ge ↦ elim (cases_lt r.start s) [
          | inl past ↦
              let mapped : covers k (r ∷ rs) (s - 1) ≡ true = ap (λ b. b || covers k rs (s - 1))
              (and_from (lies_in r.start r.count (s - 1)) (same_kind k r.kind)
              (inside r.start r.count (s - 1) (omega arith) (omega arith)) e) in
              let wrong : true ≡ false = sym mapped ∙ first (omega arith) in cc
          | inr le ↦ elim (cases_lt n r.count) [
            | inl less ↦
                let mapped : covers k (r ∷ rs) (s + n) ≡ true = ap (λ b. b || covers k rs (s + n))
                (and_from (lies_in r.start r.count (s + n)) (same_kind k r.kind)
                (inside r.start r.count (s + n) (omega arith) (omega arith)) e) in
                let wrong : true ≡ false = sym mapped ∙ last in cc
            | inr enough ↦ elim (cases_lt r.count n) [
              | inl more ↦
                  let end = run_end r in
                  let own = own_behind r k (sym (alike k r.kind e)) in
                  let none = or_past (has k end r) (covers k rs end)
                  (and_left (lies_in r.start r.count end) (same_kind k r.kind)
                  (above r.start r.count end (omega arith)))
                  ∙ covers-below k (behind_it r) rs end (narrow_behind r) h.2 (omega (arith, own)) in
                  let wrong : true ≡ false = sym (all end (omega arith) (omega arith)) ∙ none in cc
              | inr fits ↦
                  let start : r.start ≡ s = omega arith in
                  let count : r.count ≡ n = omega arith in
                  (0, omega arith, same start count (sym (alike k r.kind e)))
            ]
          ]
        ]
      ]

pub maximal-runs : HasExactlyTheMaximalRuns
maximal-runs m run =
    let s = run.start in let n = run.count in let k = run.kind in let rs = runs m in
    let low = any_from 0 in let narrow = narrow-any 0 in let rise = all-rise m in (
      λ there. record {
        not_empty = (found-low s n k low rs there.0 narrow rise there.1 there.2).1;
        alike = λ a ge lt. covers-runs m k a
            ∙ covers-inside s n k rs there.0 there.1 there.2 a ge lt;
        before = λ pos. covers-runs m k (s - 1)
            ∙ covers-before s n k low rs there.0 narrow rise there.1 there.2 pos;
        behind = covers-runs m k (s + n)
            ∙ covers-behind s n k low rs there.0 narrow rise there.1 there.2;
      },
      λ maximal. found s n k low rs narrow rise maximal.not_empty
          (λ a ge lt. sym (covers-runs m k a) ∙ maximal.alike a ge lt)
          (λ pos. sym (covers-runs m k (s - 1)) ∙ maximal.before pos)
          (sym (covers-runs m k (s + n)) ∙ maximal.behind),
    )
