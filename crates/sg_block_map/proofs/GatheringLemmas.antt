-- Gathering the runs near a range.
use Rattle.std.proofs.Common.{◌≡◌, ℕ, ◌+◌, ◌-◌, ◌<◌, ◌≤◌, zero, suc, List, [], ◌∷◌, ◌++◌, length}
use Rattle.std.proofs.Common.{length-drop, take, drop, get_or, arith, refl, sym, ap, ◌∙◌, inl}
use Rattle.std.proofs.Common.{inr, cond, Bool}
use Rattle.std.proofs.lemmas.Bool.{cases_lt, cond-true, le-leb, lt-ltb}
use Rattle.std.proofs.lemmas.List.{take-append-drop}
use Rattle.std.proofs.lemmas.List.Sums.{sum_by-append}
use Rattle.std.specs.List.{count_by, splice}
use Rattle.std.specs.Prelude.{nat_lt, ◌&&◌}
use Rattle.sg_table.specs.Draft.{Drafted}
use Rattle.sg_table.specs.Records.{start_of, IsLowerBound}
use Rattle.sg_table.specs.Search.{CostsSearch}
use Rattle.sg_table.specs.Table.{Table, visited, probed}
use Rattle.sg_table.specs.declared.run.Kind.{Kind}
use Rattle.sg_table.specs.declared.run.Run.{Run}
use Rattle.sg_store.proofs.DiskLemmas.{count-more}
use Rattle.sg_table.proofs.TableLemmas.{visited-more}
use Rattle.sg_block_map.specs.Gathering.{end_at, AreNear, starts_in, end_index, AreGathered}
use Rattle.sg_block_map.specs.Gathering.{AreBegun, AreGatheredOn}
use Rattle.sg_block_map.specs.Metering.{Visits, SearchesAndVisits}
use Rattle.sg_block_map.specs.Runs.{any_from, behind, Bound, AreMaximal, AreMaximalIn}
use Rattle.sg_pool.specs.Rising.{end_of, AreApart}
use Rattle.sg_table.proofs.SpliceLemmas.{same-splice, front_of}
use Rattle.sg_pool.proofs.RisingLemmas.{start_of-left, apart-le}
use Rattle.sg_block_map.proofs.OrderLemmas.{behind-low, behind-high}

pub count-append : {X : Type 0} (p : X → Bool) (xs ys : List X)
    → count_by p (xs ++ ys) ≡ count_by p xs + count_by p ys
count-append p xs ys = sum_by-append (λ x. cond (p x) 1 0) xs ys

pub start_of-drop : (rs : List Run) (n i : ℕ) → start_of (drop n rs) i ≡ start_of rs (n + i)
start_of-drop rs zero i = let e : 0 + i ≡ i = omega arith in rw e refl
start_of-drop [] (suc n) i = refl
start_of-drop (x ∷ rs) (suc n) i = let e : suc n + i ≡ suc (n + i) = omega arith in
    rw e (start_of-drop rs n i)

count-front : (rs : List Run) (n high : ℕ) → ((i : ℕ) → i < n → start_of rs i < high)
    → n ≤ length rs → n ≤ count_by (λ (run : Run). nat_lt run.start high) rs
count-front rs zero high h within = omega arith
count-front [] (suc n) high h within = absurd (omega arith)
count-front (x ∷ rs) (suc n) high h within =
    let rest = count-front rs n high (λ i lt. h (suc i) (omega arith)) (omega arith) in
    let more = count-more (λ (run : Run). nat_lt run.start high) x rs in
    let one = cond-true {A = ℕ} (nat_lt x.start high) 1 0
    (lt-ltb x.start high (h 0 (omega arith))) in
    omega arith

-- the runs from one index to another begin before the address
pub count-begun : (rs : List Run) (index at high : ℕ)
    → ((i : ℕ) → index ≤ i → i < at → start_of rs i < high) → index ≤ at → at ≤ length rs
    → at ≤ index + count_by (λ (run : Run). nat_lt run.start high) (drop index rs)
count-begun rs index at high h le within =
    let len = length-drop index rs in
    let n = count-front (drop index rs) (at - index) high
    (λ i lt. let e = start_of-drop rs index i in
    let b = h (index + i) (omega arith) (omega arith) in omega arith) (omega arith) in
    omega arith

-- one more run
pub near-more : (rs : List Run) (index at high start : ℕ)
    → ((i : ℕ) → index ≤ i → i < at → start_of rs i < high) → start ≡ start_of rs at → start ≤ high
    → (i : ℕ) → index ≤ i → i < at + 1 → start_of rs i ≤ high
near-more rs index at high start h e le i ge lt = elim (cases_lt i at) [
  | inl below ↦ let b = h i ge below in omega arith
  | inr above ↦ let same : i ≡ at = omega arith in rw same (omega arith)
]

pub begun-more : (rs : List Run) (index at high start : ℕ)
    → ((i : ℕ) → index ≤ i → i < at → start_of rs i < high) → start ≡ start_of rs at → start < high
    → (i : ℕ) → index ≤ i → i < at + 1 → start_of rs i < high
begun-more rs index at high start h e le i ge lt = elim (cases_lt i at) [
  | inl below ↦ h i ge below
  | inr above ↦ let same : i ≡ at = omega arith in rw same (omega arith)
]

-- the ends of runs by their indexes
pub end_at-read : (rs : List Run) (i : ℕ) (r : Run) → i < length rs → r ≡ get_or rs i r
    → end_of r ≡ end_at rs i
end_at-read [] i r h e = absurd (omega arith)
end_at-read (x ∷ rs) zero r h e = ap end_of e
end_at-read (x ∷ rs) (suc i) r h e = end_at-read rs i r (omega arith) e

end_at-past : (rs : List Run) (i : ℕ) → start_of rs i ≤ end_at rs i
end_at-past [] i = omega arith
end_at-past (x ∷ rs) zero = omega arith
end_at-past (x ∷ rs) (suc i) = end_at-past rs i

end_at-left : (xs ys : List Run) (i : ℕ) → i < length xs → end_at (xs ++ ys) i ≡ end_at xs i
end_at-left [] ys i lt = absurd (omega arith)
end_at-left (x ∷ xs) ys zero lt = refl
end_at-left (x ∷ xs) ys (suc i) lt = end_at-left xs ys i (omega arith)

end_at-behind : (xs ys : List Run) (i : ℕ) → end_at (xs ++ ys) (length xs + i) ≡ end_at ys i
end_at-behind [] ys i = let e : 0 + i ≡ i = omega arith in rw e refl
end_at-behind (x ∷ xs) ys i = let e : suc (length xs) + i ≡ suc (length xs + i) = omega arith in
    rw e (end_at-behind xs ys i)

pub start_of-behind : (xs ys : List Run) (i : ℕ)
    → start_of (xs ++ ys) (length xs + i) ≡ start_of ys i
start_of-behind [] ys i = let e : 0 + i ≡ i = omega arith in rw e refl
start_of-behind (x ∷ xs) ys i = let e : suc (length xs) + i ≡ suc (length xs + i) = omega arith in
    rw e (start_of-behind xs ys i)

-- a run ends before the next one begins
maximal-step : (rs : List Run) (low high : Bound) (i : ℕ) → AreMaximalIn low high rs
    → suc i < length rs → end_at rs i ≤ start_of rs (suc i)
maximal-step [] low high i h lt = absurd (omega arith)
maximal-step (x ∷ []) low high i h lt = absurd (omega arith)
maximal-step (x ∷ y ∷ rs) low high zero h lt = omega (arith, h.2.0, behind-low x y.kind)
maximal-step (x ∷ y ∷ rs) low high (suc i) h lt = maximal-step (y ∷ rs) (behind x) high i h.2
    (omega arith)

-- the runs before an index, and the runs from it on
pub maximal-take : (rs : List Run) (n : ℕ) (low bound : Bound) (high : ℕ) → AreMaximalIn low bound rs
    → n ≤ length rs → (n ≡ 0 → (kind : Kind) → low kind ≤ high)
    → ((m : ℕ) → n ≡ suc m → end_at rs m < high)
    → AreMaximalIn low (any_from high) (take n rs)
maximal-take rs zero low bound high h within none last = none (omega arith)
maximal-take [] (suc n) low bound high h within none last = absurd (omega arith)
maximal-take (x ∷ rs) (suc zero) low bound high h within none last =
    (h.0, h.1, λ kind. let l = last 0 (omega arith) in omega (arith, l, behind-high x kind))
maximal-take (x ∷ rs) (suc (suc n)) low bound high h within none last = (
  h.0,
  h.1,
  maximal-take rs (suc n) (behind x) bound high h.2 (omega arith)
      (λ e. absurd (omega arith)) (λ m e. last (suc m) (omega arith)),
)

pub maximal-drop : (rs : List Run) (n low b : ℕ) (from : Bound) → AreMaximalIn from (any_from b) rs
    → low ≤ b → (n < length rs → low ≤ start_of rs n) → AreMaximal low b (drop n rs)
maximal-drop [] zero low b from h le first = λ kind. le
maximal-drop [] (suc n) low b from h le first = λ kind. le
maximal-drop (x ∷ rs) zero low b from h le first = (first (omega arith), h.1, h.2)
maximal-drop (x ∷ rs) (suc n) low b from h le first =
    maximal-drop rs n low b (behind x) h.2 le (λ lt. first (omega arith))

pub near-by : (ms : List Run) (low high : ℕ) → ((i : ℕ) → i < length ms → (low ≤ end_at ms i)
    × (start_of ms i ≤ high)) → AreNear low high ms
near-by [] low high h = tt
near-by (x ∷ ms) low high h = let here = h 0 (omega arith) in
    (here.0, here.1, near-by ms low high (λ i lt. h (suc i) (omega arith)))

-- the run before the index reaches the address, or not
pub begun-none : (rs : List Run) (gathered : Drafted) (index low : ℕ) → gathered.from ≡ index
    → gathered.records ≡ [] → index ≤ length rs → (0 < index → end_at rs (index - 1) < low)
    → AreBegun rs gathered index low
begun-none rs gathered index low e none within before =
    let len = ap length none in
    record {
      reached = omega arith;
      same = rw (e, none) (take-append-drop index rs);
      one = omega arith;
      reach = λ i ge lt. absurd (omega arith);
      before = λ _ pos. before pos;
    }

pub begun-one : (rs : List Run) (gathered : Drafted) (run : Run) (index low : ℕ) → 0 < index
    → index ≤ length rs → gathered.from ≡ index - 1 → gathered.records ≡ run ∷ []
    → run ≡ get_or rs (index - 1) run → low ≤ end_of run → AreBegun rs gathered index low
begun-one rs gathered run index low pos within e one read reach =
    let len = ap length one in
    let on : index - 1 + 1 ≡ index = omega arith in
    let ends = end_at-read rs (index - 1) run (omega arith) read in
    record {
      reached = omega arith;
      same = rw (e, one) (rw on at (same-splice rs [] (index - 1) (index - 1) run
          (omega arith) read) ∙ take-append-drop (index - 1) rs);
      one = omega arith;
      reach = λ i ge lt. let is : i ≡ index - 1 = omega arith in rw is (omega arith);
      before = λ wrong pos. absurd (omega arith);
    }

-- the parts of the table
pub gathered-parts : (rs : List Run) (gathered : Drafted)
    → splice rs gathered.from (end_index gathered) gathered.records ≡ rs
    → rs ≡ take gathered.from rs ++ (gathered.records ++ drop (end_index gathered) rs)
gathered-parts rs gathered same = sym same

pub all-gathered : (rs : List Run) (begun gathered : Drafted) (index low high bound : ℕ)
    → AreBegun rs begun index low → IsLowerBound rs index low → low ≤ high
    → gathered.from ≡ begun.from → index ≤ end_index gathered → end_index gathered ≤ length rs
    → splice rs gathered.from (end_index gathered) gathered.records ≡ rs
    → ((i : ℕ) → index ≤ i → i < end_index gathered → start_of rs i ≤ high)
    → (end_index gathered < length rs → high < start_of rs (end_index gathered))
    → AreMaximal 0 bound rs → high + 1 ≤ bound
    → AreGathered rs gathered low high bound
all-gathered rs begun gathered index low high bound b p order from grows within same near after
    maximal le =
    let xs : List Run = take gathered.from rs in
    let reached = b.reached in
    let lx : length xs ≡ gathered.from = front_of rs gathered.from (omega arith) in
    let ends = λ (i : ℕ) (lt : i < length gathered.records). ap
    (λ zs. end_at zs (gathered.from + i)) (sym same)
    ∙ ap (λ n. end_at (xs ++ (gathered.records ++ drop (end_index gathered) rs)) (n + i))
    (sym lx)
    ∙ end_at-behind xs (gathered.records ++ drop (end_index gathered) rs) i
    ∙ end_at-left gathered.records (drop (end_index gathered) rs) i lt in
    let starts = λ (i : ℕ) (lt : i < length gathered.records). ap
    (λ zs. start_of zs (gathered.from + i)) (sym same)
    ∙ ap (λ n. start_of (xs ++ (gathered.records ++ drop (end_index gathered) rs)) (n + i))
    (sym lx)
    ∙ start_of-behind xs (gathered.records ++ drop (end_index gathered) rs) i
    ∙ start_of-left gathered.records (drop (end_index gathered) rs) i lt in
    record {
      within = within;
      same = same;
      before = maximal-take rs gathered.from (any_from 0) (any_from bound) low maximal (omega arith)
          (λ _ kind. omega arith)
          (λ m is. elim (cases_lt gathered.from index) [
            | inl below ↦
                let up : end_at rs m ≤ start_of rs gathered.from =
                rw (sym is) at (maximal-step rs (any_from 0) (any_from bound) m maximal
                (omega arith)) in
                let low_there = p.before gathered.from below in omega arith
            | inr above ↦
                let here : begun.from ≡ index = omega arith in
                let at : index - 1 ≡ m = omega arith in
                rw at at (b.before here (omega arith))
          ]);
      near = near-by gathered.records low high (λ i lt.
          let e = ends i lt in let s = starts i lt in
          elim (cases_lt (gathered.from + i) index) [
            | inl below ↦
                let r = b.reach (gathered.from + i) (omega arith) below in
                let l = p.before (gathered.from + i) below in
                (omega arith, omega arith)
            | inr above ↦
                let l = p.after (gathered.from + i) above (omega arith) in
                let n = near (gathered.from + i) above (omega arith) in
                let q = end_at-past rs (gathered.from + i) in
                (omega arith, omega arith)
          ]);
      after = maximal-drop rs (end_index gathered) (high + 1) bound (any_from 0) maximal le
          (λ lt. let a = after lt in omega arith);
    }

-- the number of runs that begin in the range
pub count-starts : (rs : List Run) (index low high : ℕ)
    → ((i : ℕ) → index ≤ i → i < length rs → low ≤ start_of rs i)
    → count_by (λ (run : Run). nat_lt run.start high) (drop index rs) ≤ count_by
    (starts_in low high) rs
count-starts [] zero low high after = omega arith
count-starts [] (suc index) low high after = omega arith
count-starts (x ∷ rs) zero low high after =
    let rest = count-starts rs zero low high (λ i ge lt. after (suc i) (omega arith) (omega arith))
    in
    let l = count-more (λ (run : Run). nat_lt run.start high) x rs in
    let r = count-more (starts_in low high) x rs in
    let first : starts_in low high x ≡ nat_lt x.start high =
    ap (λ b. b && nat_lt x.start high) (le-leb low x.start
    (after 0 (omega arith) (omega arith))) in
    let same : cond {A = ℕ} (starts_in low high x) 1 0 ≡ cond (nat_lt x.start high) 1 0 =
    ap (λ b. cond b 1 0) first in
    omega arith
count-starts (x ∷ rs) (suc index) low high after =
    let rest = count-starts rs index low high
    (λ i ge lt. after (suc i) (omega arith) (omega arith)) in
    let r = count-more (starts_in low high) x rs in
    omega arith

-- a run ends within the bound
pub end-within : (rs : List Run) (a b i : ℕ) (d : Run) → AreApart a b rs → i < length rs
    → end_of (get_or rs i d) ≤ b
end-within [] a b i d h lt = absurd (omega arith)
end-within (x ∷ rs) a b zero d h lt = apart-le rs (end_of x) b h.2
end-within (x ∷ rs) a b (suc i) d h lt = end-within rs (end_of x) b i d h.2 (omega arith)

-- the records that were gathered up to an index, and from it on
pub gathered-on : (rs : List Run) (old now : Drafted) (index at high : ℕ) → now.from ≡ old.from
    → index ≤ at → end_index now ≡ at → at ≤ length rs
    → splice rs now.from at now.records ≡ rs
    → ((i : ℕ) → index ≤ i → i < at → start_of rs i ≤ high)
    → (at < length rs → high < start_of rs at) → AreGatheredOn rs old now index high
gathered-on rs old now index at high from order reached within same near after = record {
  from = from;
  order = omega (arith, order, reached);
  within = omega (arith, within, reached);
  same = rw reached same;
  near = rw reached near;
  after = rw reached after;
}

-- records that were visited
pub visits-of : (t u : Table) (n at_least at_most : ℕ) → u ≡ visited t n → at_least ≤ n
    → n ≤ at_most → Visits at_least at_most t u
visits-of t u n at_least at_most is low high =
    let total = ap (λ (x : Table). x.total) is in
    let count : n ≡ u.total - t.total = omega (arith, total) in
    record {
      table = is ∙ ap (visited t) count;
      between = record {
        fewest_visits = omega (arith, total, low);
        most_visits = omega (arith, total, high);
      };
    }

-- visits after a search
pub searched-visits : (s t u v : Table) (a b a' b' : ℕ) → t ≡ probed s (t.probes - s.probes)
    → s.probes ≤ t.probes → CostsSearch (length s.records) (t.probes - s.probes)
    → Visits a b t u → Visits a' b' u v → SearchesAndVisits (a + a') (b + b') s v
searched-visits s t u v a b a' b' is rise search first more =
    let start : t.total ≡ s.total = ap (λ (x : Table). x.total) is in
    let probes : v.probes ≡ t.probes = ap (λ (x : Table). x.probes) more.table
    ∙ ap (λ (x : Table). x.probes) first.table in
    let n = u.total - t.total in
    let m = v.total - u.total in
    let here = first.between in
    let there = more.between in
    let all : n + m ≡ v.total - s.total =
    omega (arith, start, here.fewest_visits, there.fewest_visits) in
    record {
      table = more.table ∙ ap (λ x. visited x m) first.table ∙ visited-more t n m
          ∙ ap (visited t) all ∙ ap (λ x. visited x (v.total - s.total)) is
          ∙ ap (λ k. visited (probed s (k - s.probes)) (v.total - s.total)) (sym probes);
      probes_rise = omega (arith, rise, probes);
      search = rw probes search;
      between = record {
        fewest_visits = omega (arith, start, here.fewest_visits, there.fewest_visits);
        most_visits = omega (arith, start, here.most_visits, there.most_visits);
      };
    }
