-- Gathering the extents near a range.
use Rattle.std.proofs.Common.{◌≡◌, ℕ, ◌+◌, ◌-◌, ◌<◌, ◌≤◌, zero, suc, List, [], ◌∷◌, ◌++◌, length}
use Rattle.std.proofs.Common.{take, drop, arith, refl, sym, ap, ◌∙◌}
use Rattle.std.proofs.Common.{inl, inr}
use Rattle.std.proofs.lemmas.Bool.{cases_lt}
use Rattle.std.proofs.lemmas.List.Sums.{sum_by-append, sum_by-cons}
use Rattle.std.specs.List.{splice}
use Rattle.sg_store.specs.Disk.{max_capacity}
use Rattle.sg_table.specs.Draft.{Drafted}
use Rattle.sg_table.specs.Records.{start_of, IsLowerBound}
use Rattle.sg_table.specs.declared.run.Run.{Run}
use Rattle.sg_table.proofs.SpliceLemmas.{front_of}
use Rattle.sg_pool.specs.Rising.{end_of, AreApart}
use Rattle.sg_extent_map.specs.Gathering.{overlap, overlaps, end_index, AreGathered, BeginsBelow}
use Rattle.sg_extent_map.specs.Gathering.{EndsFrom}
use Rattle.sg_pool.proofs.RisingLemmas.{start_of-right, apart-le, apart-left, apart-right}
use Rattle.sg_pool.proofs.RisingLemmas.{apart-weaker}
use Rattle.sg_pool.proofs.RisingLemmas.{end_of_all}

-- the extents before an index, and from one on
pub apart-take : (rs : List Run) (a b low n : ℕ) → AreApart a b rs → n < length rs
    → start_of rs n ≤ low → AreApart a low (take n rs)
apart-take [] a b low n h lt le = absurd (omega arith)
apart-take (x ∷ rs) a b low zero h lt le = omega (arith, h.0)
apart-take (x ∷ rs) a b low (suc n) h lt le =
    (h.0, h.1, apart-take rs (end_of x) b low n h.2 (omega arith) le)

pub apart-drop : (rs : List Run) (a b high n : ℕ) → AreApart a b rs → high ≤ b
    → (n < length rs → high ≤ start_of rs n) → AreApart high b (drop n rs)
apart-drop [] a b high zero h le first = le
apart-drop [] a b high (suc n) h le first = le
apart-drop (x ∷ rs) a b high zero h le first = (first (omega arith), h.1, h.2)
apart-drop (x ∷ rs) a b high (suc n) h le first =
    apart-drop rs (end_of x) b high n h.2 le (λ lt. first (omega arith))

pub apart-first : (xs ys : List Run) (a b : ℕ) → AreApart a b (xs ++ ys) → AreApart a b xs
apart-first xs ys a b h =
    let rest = apart-le ys (end_of_all a xs) b (apart-right xs ys a b h) in
    apart-weaker xs a (end_of_all a xs) a b (omega arith) rest (apart-left xs ys a b h)

-- an extent that begins in a range has an address there
pub overlaps-last : (low high : ℕ) (runs : List Run) (run : Run)
    → overlaps low high (runs ++ run ∷ []) ≡ overlaps low high runs + overlap low high run
overlaps-last low high runs run =
    let sum = sum_by-append (overlap low high) runs (run ∷ []) in
    let one = sum_by-cons (overlap low high) run [] in
    omega arith

-- the rest after the first extent
drop-one : (xs ms ys : List Run) (n : ℕ) → length xs ≡ n → 0 < length ms
    → drop (n + 1) (xs ++ (ms ++ ys)) ≡ drop 1 ms ++ ys
drop-one [] [] ys n e some = absurd (omega arith)
drop-one [] (m ∷ ms) ys n e some = let z : n + 1 ≡ 1 = omega arith in rw z refl
drop-one (x ∷ xs) ms ys zero e some = absurd (omega arith)
drop-one (x ∷ xs) ms ys (suc n) e some =
    let s : suc n + 1 ≡ suc (n + 1) = omega arith in
    rw s (drop-one xs ms ys n (omega arith) some)

rest-of : (rs xs ms ys : List Run) (n low : ℕ) → rs ≡ xs ++ (ms ++ ys) → length xs ≡ n
    → AreApart 0 max_capacity rs → low ≤ max_capacity
    → (n + 1 < length rs → low ≤ start_of rs (n + 1)) → AreApart low max_capacity (drop 1 ms)
rest-of rs xs [] ys n low e len h le up = le
rest-of rs xs (m ∷ ms) ys n low e len h le up =
    let all = apart-drop rs 0 max_capacity low (n + 1) h le up in
    let parts = ap (drop (n + 1)) e ∙ drop-one xs (m ∷ ms) ys n len (omega arith) in
    apart-first (drop 1 (m ∷ ms)) ys low max_capacity (rw parts at all)

begun : (ms ys : List Run) (low : ℕ) → 0 < length ms → start_of (ms ++ ys) 0 < low
    → BeginsBelow low ms
begun [] ys low some lt = absurd (omega arith)
begun (m ∷ ms) ys low some lt = (m, ms, refl, lt)

-- all records near the range were gathered, from the one before an index on
pub all-gathered : (rs : List Run) (gathered : Drafted) (index from at low high : ℕ)
    → AreApart 0 max_capacity rs → IsLowerBound rs index low → from ≡ index - 1
    → gathered.from ≡ from → end_index gathered ≡ at → at ≤ length rs → low ≤ high
    → high ≤ max_capacity
    → splice rs from at gathered.records ≡ rs → (at < length rs → high ≤ start_of rs at)
    → (from < length rs → from < at) → (at < length rs → EndsFrom high gathered.records)
    → length gathered.records ≤ overlaps low high gathered.records + 2
    → AreGathered rs gathered low high
all-gathered rs gathered index from at low high h p f begins reached within order fits same after some
    last few =
    let xs : List Run = take gathered.from rs in
    let lx : length xs ≡ gathered.from = front_of rs gathered.from (omega arith) in
    let p_within = p.within in
    record {
      within = omega arith;
      same = rw (← begins, ← reached) at same;
      before = elim (cases_lt 0 index) [
        | inl some ↦
            let up = p.before (index - 1) (omega arith) in
            let e : gathered.from ≡ index - 1 = omega arith in
            rw e (apart-take rs 0 max_capacity low (index - 1) h (omega arith) (omega arith))
        | inr none ↦ let e : gathered.from ≡ 0 = omega arith in rw e (omega arith)
      ];
      rest = rest-of rs xs gathered.records (drop (end_index gathered) rs) gathered.from low
          (sym (rw (← begins, ← reached) at same)) lx h (omega arith)
          (λ lt. p.after (gathered.from + 1) (omega arith) lt);
      begins = λ later.
          let here = some (omega arith) in
          let up = p.before gathered.from (omega arith) in
          let start = ap (λ zs. start_of zs gathered.from) (sym (rw (← begins, ← reached) at same))
          ∙ start_of-right xs (gathered.records ++ drop (end_index gathered) rs) gathered.from
          (omega arith) in
          begun gathered.records (drop (end_index gathered) rs) low (omega arith)
          (let e : gathered.from - length xs ≡ 0 = omega arith in
          let first = ap (start_of (gathered.records ++ drop (end_index gathered) rs)) e in
          omega arith);
      ends = λ lt. last (omega arith);
      after = rw reached (apart-drop rs 0 max_capacity high at h fits after);
      few = few;
    }
