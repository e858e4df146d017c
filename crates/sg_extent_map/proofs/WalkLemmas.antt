-- Walking over extents, and their parts.
use Rattle.std.proofs.Common.{◌≡◌, ◌≢◌, ℕ, ◌+◌, ◌-◌, ◌<◌, ◌≤◌, suc, List, [], ◌∷◌, ◌++◌, drop}
use Rattle.std.proofs.Common.{arith, refl, sym, ap, ap₂, ◌∙◌, append_assoc, Option, Some, None}
use Rattle.std.proofs.Common.{eq-eqb, true≢false}
use Rattle.std.proofs.lemmas.Bool.{eqb-true}
use Rattle.std.proofs.lemmas.List.Elements.{All-head, All-tail, All-cons, All-nil}
use Rattle.std.specs.List.{All}
use Rattle.std.specs.Prelude.{option_to_list, option_map, IfSome}
use Rattle.std.specs.FinMap.{get}
use Rattle.sg_store.specs.Disk.{block, data_in, max_capacity}
use Rattle.sg_pool.specs.MappedRecords.{contents_by, contents_of, mapping_in}
use Rattle.sg_pool.proofs.MappedLemmas.{get-mapped, get-unmapped}
use Rattle.sg_table.specs.Records.{run_at, single}
use Rattle.sg_table.specs.declared.run.Kind.TheVariants.{Data}
use Rattle.sg_table.specs.declared.run.Run.{Run}
use Rattle.sg_table.proofs.RecordLemmas.{picked, dropped}
use Rattle.sg_extent_map.specs.Extents.{singles_from, singles_of, singles}
use Rattle.sg_pool.specs.Rising.{end_of, AreApart, AreBetween}
use Rattle.sg_extent_map.specs.Extents.{IsExtent}
use Rattle.sg_extent_map.specs.Extents.{IsPart, part_of}
use Rattle.sg_extent_map.specs.Walking.{ahead_of, AreAhead, IsBegun, Passes}
use Rattle.sg_extent_map.proofs.BetweenLemmas.{between-from}
use Rattle.sg_pool.proofs.RisingLemmas.{between-weaker, sorted-between}
use Rattle.sg_pool.proofs.ContentsLemmas.{get-middle}
use Rattle.sg_extent_map.proofs.SinglesLemmas.{from-none, from-append, from-more, singles-more}

-- ---- Parts of an extent

pub extent-part : (pool : ℕ) (run : Run) (skip n : ℕ) → IsExtent pool run → skip + n ≤ run.count
    → IsPart pool (part_of run skip n)
extent-part pool run skip n h le some = record {
  not_empty = some;
  range = omega (arith, h.range);
  slots = omega (arith, h.slots);
  last = omega arith;
}

-- two parts that follow one another
pub part-split : (run : Run) (skip n m : ℕ)
    → singles_of (part_of run skip (n + m)) ≡ singles_of (part_of run skip n)
    ++ singles_of (part_of run (skip + n) m)
part-split run skip n m =
    let e : run.start + skip + n ≡ run.start + (skip + n) = omega arith in
    let f : run.first + skip + n ≡ run.first + (skip + n) = omega arith in
    from-append (run.start + skip) (run.first + skip) n m run.kind
    ∙ ap (λ xs. singles_of (part_of run skip n) ++ xs)
    (ap₂ (λ s t. singles_from s t m run.kind) e f)

pub part-whole : (run : Run) → singles_of (part_of run 0 run.count) ≡ singles_of run
part-whole run =
    let e : run.start + 0 ≡ run.start = omega arith in
    let f : run.first + 0 ≡ run.first = omega arith in
    ap₂ (λ s t. singles_from s t run.count run.kind) e f

pub part-two : (run : Run) (n : ℕ) → n ≤ run.count
    → singles_of run ≡ singles_of (part_of run 0 n) ++ singles_of (part_of run n (run.count - n))
part-two run n le =
    let e : n + (run.count - n) ≡ run.count = omega arith in
    let z : 0 + n ≡ n = omega arith in
    sym (part-whole run) ∙ ap (λ k. singles_of (part_of run 0 k)) (sym e)
    ∙ part-split run 0 n (run.count - n)
    ∙ ap (λ k. singles_of (part_of run 0 n) ++ singles_of (part_of run k (run.count - n))) z

-- ---- The beginning of a walk

abbrev no_run : Run
no_run = record { start = 0; count = 0; first = 0; last = 0; kind = Data }

begun-whole : (pool lba : ℕ) (runs : List Run) → AreAhead pool 0 runs
    → AreApart lba max_capacity runs → IsBegun pool lba runs no_run runs
begun-whole pool lba runs h apart = record {
  parts = ap (λ xs. xs ++ singles runs) (sym (from-none 0 0 Data));
  part = λ some. absurd (omega arith);
  before = omega arith;
  fewer = omega arith;
  still_ahead = record { apart = apart; extents = h.extents };
}

pub begun-none : (pool lba : ℕ) (runs : List Run) → [] ≡ runs → lba ≤ max_capacity
    → AreAhead pool 0 runs → IsBegun pool lba runs no_run []
begun-none pool lba [] e le h = begun-whole pool lba [] h le
begun-none pool lba (x ∷ xs) e le h = let wrong = e in cc

pub begun-past : (pool lba : ℕ) (runs more : List Run) (run : Run) → run ∷ more ≡ runs
    → lba ≤ run.start → AreAhead pool 0 runs → IsBegun pool lba runs no_run (run ∷ more)
begun-past pool lba runs more run e le h =
    let h' = rw (← e) at h in
    rw (← e) (begun-whole pool lba (run ∷ more) h' (le, h'.apart.1, h'.apart.2))

pub begun-after : (pool lba : ℕ) (runs more : List Run) (run : Run) → run ∷ more ≡ runs
    → end_of run ≤ lba → AreApart lba max_capacity more → AreAhead pool 0 runs
    → IsBegun pool lba runs run more
begun-after pool lba runs more run e le apart h =
    let h' = rw (← e) at h in
    rw (← e) (record {
      parts = singles-more run more;
      part = λ _. All-head (IsExtent pool) run more h'.extents;
      before = le;
      fewer = omega arith;
      still_ahead = record {
        apart = apart;
        extents = All-tail (IsExtent pool) run more h'.extents;
      };
    })

pub begun-within : (pool lba n : ℕ) (runs more : List Run) (run : Run) → run ∷ more ≡ runs
    → run.start + n ≡ lba → n < run.count → AreAhead pool 0 runs
    → IsBegun pool lba runs (part_of run 0 n) (part_of run n (run.count - n) ∷ more)
begun-within pool lba n runs more run e at lt h =
    let h' = rw (← e) at h in
    let extent = All-head (IsExtent pool) run more h'.extents in
    let rest : Run = part_of run n (run.count - n) in
    let ends : end_of run ≡ end_of rest = omega arith in
    rw (← e) (record {
      parts = singles-more run more
          ∙ ap (λ xs. xs ++ singles more) (part-two run n (omega arith))
          ∙ append_assoc (singles_of (part_of run 0 n)) (singles_of rest) (singles more)
          ∙ ap (λ xs. singles_of (part_of run 0 n) ++ xs) (sym (singles-more rest more));
      part = extent-part pool run 0 n extent (omega arith);
      before = omega arith;
      fewer = omega arith;
      still_ahead = record {
        apart = (
          omega arith,
          omega arith,
          rw ends at h'.apart.2,
        );
        extents = All-cons (IsExtent pool) rest more
            (extent-part pool run n (run.count - n) extent (omega arith) (omega arith))
            (All-tail (IsExtent pool) run more h'.extents);
      };
    })

-- ---- The walk passes an address

pub passes-none : (pool lba at : ℕ) (runs : List Run) (run : Option Run) → run_at run lba ≡ None
    → lba < max_capacity → AreAhead pool lba (ahead_of runs run at)
    → Passes pool lba (ahead_of runs run at) None (ahead_of runs run at)
passes-none pool lba at runs None none lt h = record {
  parts = refl;
  record_is = tt;
  fewer = omega arith;
  still_ahead = record { apart = omega arith; extents = h.extents };
}
passes-none pool lba at runs (Some run) none lt h = record {
  parts = refl;
  record_is = tt;
  fewer = omega arith;
  still_ahead = record {
    apart = (
      let off = dropped _ run none in
          let other : run.start ≢ lba = λ same. true≢false (sym (eq-eqb run.start lba same) ∙ off) in
          omega (arith, h.apart.0, other),
      h.apart.1,
      h.apart.2,
    );
    extents = h.extents;
  };
}

-- the run ahead, if it begins at the address
pub ahead-found : (lba at : ℕ) (runs : List Run) (o : Option Run) (run : Run)
    → run_at o lba ≡ Some run → (ahead_of runs o at ≡ run ∷ drop at runs) × (run.start ≡ lba)
ahead-found lba at runs None run e = let wrong = e in cc
ahead-found lba at runs (Some r) run e =
    let both = picked _ r run e in (
      ap (λ x. x ∷ drop at runs) both.1,
      ap (λ (x : Run). x.start) (sym both.1) ∙ eqb-true r.start lba both.0,
    )

pub passes-one : (pool lba : ℕ) (ahead more ahead' : List Run) (run found : Run)
    → ahead ≡ run ∷ more → run.start ≡ lba → run.count ≡ 1 → ahead' ≡ more
    → found ≡ single lba run.first run.kind
    → AreAhead pool lba ahead → Passes pool lba ahead (Some found) ahead'
passes-one pool lba ahead more ahead' run found e at one same is h =
    let h' = rw e at h in
    let extent = All-head (IsExtent pool) run more h'.extents in
    let slots = extent.slots in
    let ends : end_of run ≡ lba + 1 = omega arith in
    rw (e, same, is) (record {
      parts = singles-more run more
          ∙ ap (λ xs. xs ++ singles more) (ap₂ (λ n s. singles_from s run.first n run.kind) one at
          ∙ from-more lba run.first 0 run.kind
          ∙ ap (λ xs. single lba run.first run.kind ∷ xs) (from-none (lba + 1) (run.first + 1) run.kind));
      record_is = (refl, omega arith);
      fewer = omega arith;
      still_ahead = record {
        apart = rw ends at h'.apart.2;
        extents = All-tail (IsExtent pool) run more h'.extents;
      };
    })

pub passes-more : (pool lba n : ℕ) (ahead more : List Run) (run found : Run)
    → ahead ≡ run ∷ more → run.start ≡ lba → run.count ≡ n + 1 → 0 < n
    → found ≡ single lba run.first run.kind
    → AreAhead pool lba ahead → Passes pool lba ahead (Some found) (part_of run 1 n ∷ more)
passes-more pool lba n ahead more run found e at count some is h =
    let h' = rw e at h in
    let extent = All-head (IsExtent pool) run more h'.extents in
    let slots = extent.slots in
    let rest : Run = part_of run 1 n in
    let ends : end_of run ≡ end_of rest = omega arith in
    let begins : run.start + 1 ≡ lba + 1 = omega arith in
    let all : run.count ≡ suc n = omega arith in
    rw (e, is) (record {
      parts = singles-more run more
          ∙ ap (λ xs. xs ++ singles more) (ap (λ k. singles_from run.start run.first k run.kind) all
          ∙ from-more run.start run.first n run.kind
          ∙ ap (λ s. single s run.first run.kind ∷ singles_of rest) at)
          ∙ ap (λ xs. single lba run.first run.kind ∷ xs) (sym (singles-more rest more));
      record_is = (refl, omega arith);
      fewer = omega arith;
      still_ahead = record {
        apart = (omega arith, some, rw ends at h'.apart.2);
        extents = All-cons (IsExtent pool) rest more
            (extent-part pool run 1 n extent (omega arith) some)
            (All-tail (IsExtent pool) run more h'.extents);
      };
    })

-- a list by its first extent and the others
pub cons-drop : (run : Run) (more runs : List Run) → run ∷ more ≡ runs → run ∷ drop 1 runs ≡ runs
cons-drop run more runs e = ap (λ xs. run ∷ drop 1 xs) (sym e) ∙ e

-- a larger pool
pub extents-weaker : (pool pool' : ℕ) (runs : List Run) → pool ≤ pool' → All (IsExtent pool) runs
    → All (IsExtent pool') runs
extents-weaker pool pool' [] le h = All-nil (IsExtent pool')
extents-weaker pool pool' (x ∷ xs) le h =
    let one : IsExtent pool x = All-head (IsExtent pool) x xs h in
    All-cons (IsExtent pool') x xs (record {
      not_empty = one.not_empty;
      range = one.range;
      slots = omega (arith, one.slots);
      last = one.last;
    }) (extents-weaker pool pool' xs le (All-tail (IsExtent pool) x xs h))

pub ahead-weaker : (pool pool' lba : ℕ) (runs : List Run) → pool ≤ pool' → AreAhead pool lba runs
    → AreAhead pool' lba runs
ahead-weaker pool pool' lba runs le h = record {
  apart = h.apart;
  extents = extents-weaker pool pool' runs le h.extents;
}

-- ---- The addresses that were passed, the record of an address, and the addresses after it

abbrev pub IsRecordOf : (lba pool : ℕ) → Option Run → Type 0
IsRecordOf lba pool found =
    IfSome found (λ run. (run ≡ single lba run.first run.kind) × (run.first < pool))

pub between-found : (lba pool : ℕ) (found : Option Run) → IsRecordOf lba pool found
    → AreBetween lba (lba + 1) (option_to_list found)
between-found lba pool None h = omega arith
between-found lba pool (Some run) h =
    let start = ap (λ (r : Run). r.start) h.0 in (omega arith, omega arith)

pub between-front : (front : Run) (lba : ℕ) → end_of front ≤ lba → AreBetween 0 lba (singles_of front)
between-front front lba le =
    between-weaker (singles_of front) front.start (end_of front) 0 lba (omega arith) le
    (between-from front.start front.first front.count front.kind)

pub block-found : (passed more : List Run) (found : Option Run) (bs : List (List ℕ))
    (lba pool high : ℕ) → AreBetween 0 lba passed → AreBetween (lba + 1) high more
    → IsRecordOf lba pool found
    → block (contents_of (passed ++ (option_to_list found ++ more)) bs) lba
    ≡ data_in (option_map (λ (run : Run). mapping_in bs run.first run.kind) found)
block-found passed more found bs lba pool high h k is =
    ap data_in (get-middle passed (option_to_list found) more (mapping_in bs) 0 lba (lba + 1) high lba
    h (omega arith) k (omega arith) ∙ only found is)
  where
    only : (found : Option Run) → IsRecordOf lba pool found
        → get (contents_by (mapping_in bs) (option_to_list found)) lba
        ≡ option_map (λ (run : Run). mapping_in bs run.first run.kind) found
    only None is = get-unmapped (mapping_in bs) [] lba (λ i lt. absurd (omega arith))
    only (Some run) is =
        let start = ap (λ (r : Run). r.start) is.0 in
        let sorted = sorted-between (run ∷ []) 0 (lba + 1) (omega arith, omega arith) in
        ap (get (contents_by (mapping_in bs) (run ∷ []))) (sym start)
        ∙ get-mapped (mapping_in bs) (run ∷ []) 0 run sorted (omega arith) refl

pub slot-found : (lba pool : ℕ) (found : Option Run) → IsRecordOf lba pool found
    → IfSome found (λ run. run.first < pool)
slot-found lba pool None is = tt
slot-found lba pool (Some run) is = is.1

pub extent-weaker : (pool pool' : ℕ) (run : Run) → pool ≤ pool' → IsExtent pool run → IsExtent pool' run
extent-weaker pool pool' run le h = record {
  not_empty = h.not_empty;
  range = h.range;
  slots = omega (arith, h.slots);
  last = h.last;
}
