-- The runs of a table: their slots, their blocks, and the gathered runs.
use Rattle.std.proofs.Common.{◌≡◌, ℕ, ◌+◌, ◌<◌, ◌≤◌, List, [], ◌∷◌, ◌++◌, length, take}
use Rattle.std.proofs.Common.{drop, get_or, arith, sym, ap, ◌∙◌, length-append}
use Rattle.std.proofs.lemmas.List.{drop_more, get_or-append-add, get_or_append_left}
use Rattle.std.proofs.lemmas.List.Sums.{sum_by-cons, sum_by-append}
use Rattle.std.specs.List.{splice}
use Rattle.sg_pool.specs.Chains.{chain, AreBelow, IsChain}
use Rattle.sg_table.specs.Draft.{Drafted}
use Rattle.sg_pool.specs.Slots.{Slots}
use Rattle.sg_table.specs.Records.{slots_of}
use Rattle.sg_table.specs.Occurrences.{occurrences, IsEachOnce}
use Rattle.sg_table.specs.declared.run.Run.{Run}
use Rattle.sg_store.specs.Disk.{max_capacity}
use Rattle.sg_block_map.specs.Cutting.{AreDistinct}
use Rattle.sg_block_map.specs.Gathering.{AreGathered, end_index}
use Rattle.sg_block_map.specs.Runs.{singles_of, expanded, AreRuns, blocks_of}
use Rattle.sg_pool.specs.Rising.{end_of}
use Rattle.sg_table.proofs.OccurrenceLemmas.{same_slot, occurrences-append, occurrences-more}
use Rattle.sg_table.proofs.OccurrenceLemmas.{once-le, below_count}
use Rattle.sg_table.proofs.SpliceLemmas.{front_of}
use Rattle.sg_pool.proofs.RisingLemmas.{end_of_all, apart-right, apart-le}
use Rattle.sg_block_map.proofs.OrderLemmas.{apart-maximal}
use Rattle.sg_block_map.proofs.ExpandedLemmas.{expanded-append, expanded-more, expanded-none}
use Rattle.sg_block_map.proofs.ExpandedLemmas.{chained-left, chained-right}
use Rattle.sg_block_map.proofs.ExpandedLemmas.{slots-both, slots-more, length-singles, runs-le}

-- a part of a list where each slot occurs once
pub below-sub : (count : ℕ) (xs all : List ℕ) → IsEachOnce count all
    → ((t : ℕ) → occurrences t xs ≤ occurrences t all) → AreBelow count xs
unfolding AreBelow
below-sub count [] all once sub = tt
below-sub count (x ∷ xs) all once sub =
    let here = sub x in
    let more = occurrences-more x x xs in
    let one = same_slot x in (
      below_count count all x once (omega arith),
      below-sub count xs all once (λ t. let s = sub t in let m = occurrences-more t x xs in
          omega arith),
    )

-- a run of the table
module _ (xs kept tail : List Run) (run : Run) (slots : Slots) (room : ℕ)
    (h : AreRuns (xs ++ (kept ++ run ∷ tail)) slots room) where
  abbrev all : List Run
  all = xs ++ (kept ++ run ∷ tail)

  slots_of_run : (s : ℕ) → occurrences s (chain slots.next run.first run.count) ≤ occurrences s
      (slots_of (expanded slots.next all))
  slots_of_run s =
      let a = slots-both slots.next s xs (kept ++ run ∷ tail) in
      let b = slots-both slots.next s kept (run ∷ tail) in
      let d = slots-more slots.next s run tail in
      omega arith

  pub run-chain : IsChain slots.next run.first run.last run.count
  run-chain = (chained-right slots.next kept (run ∷ tail)
      (chained-right slots.next xs (kept ++ run ∷ tail) h.chained)).0

  pub run-distinct : AreDistinct (chain slots.next run.first run.count) slots.free
  run-distinct s =
      let once = once-le (length slots.blocks)
      (slots_of (expanded slots.next all) ++ slots.free) s h.consistent.once in
      let both = occurrences-append s (slots_of (expanded slots.next all)) slots.free in
      let part = slots_of_run s in
      omega arith

  pub run-below : AreBelow (length slots.next) (chain slots.next run.first run.count)
  run-below =
      let same : length slots.next ≡ length slots.blocks = h.links ∙ sym h.consistent.pool in
      rw same (below-sub (length slots.blocks) (chain slots.next run.first run.count)
      (slots_of (expanded slots.next all) ++ slots.free) h.consistent.once (λ t.
      let both = occurrences-append t (slots_of (expanded slots.next all)) slots.free in
      let part = slots_of_run t in
      omega arith))

  pub run-lengths : (run.count + length slots.free ≤ room)
      × (length xs + length kept + run.count + length tail ≤ room)
  run-lengths =
      let a = ap length (expanded-append slots.next xs (kept ++ run ∷ tail))
      ∙ length-append (expanded slots.next xs) (expanded slots.next (kept ++ run ∷ tail)) in
      let b = ap length (expanded-append slots.next kept (run ∷ tail))
      ∙ length-append (expanded slots.next kept) (expanded slots.next (run ∷ tail)) in
      let d = ap length (expanded-more slots.next run tail)
      ∙ length-append (singles_of slots.next run) (expanded slots.next tail) in
      let e = length-singles slots.next run.start run.first run.count run.kind in
      let f = runs-le slots.next xs (chained-left slots.next xs (kept ++ run ∷ tail) h.chained) in
      let g = runs-le slots.next kept (chained-left slots.next kept (run ∷ tail)
      (chained-right slots.next xs (kept ++ run ∷ tail) h.chained)) in
      let i = runs-le slots.next tail
      ((chained-right slots.next kept (run ∷ tail)
      (chained-right slots.next xs (kept ++ run ∷ tail) h.chained)).1) in
      (omega (arith, h.consistent.count), omega (arith, h.consistent.count))

  pub run-range : end_of run ≤ max_capacity
  run-range =
      let apart = apart-maximal all 0 max_capacity (omega arith) h.maximal in
      let all_right = apart-right xs (kept ++ run ∷ tail) 0 max_capacity apart in
      let right = apart-right kept (run ∷ tail) (end_of_all 0 xs) max_capacity all_right in
      apart-le tail (end_of run) max_capacity right.2

-- there are no more runs than the pool has slots
pub runs-fit : (records : List Run) (slots : Slots) (room : ℕ) → AreRuns records slots room
    → length records ≤ room
runs-fit records slots room h = let le = runs-le slots.next records h.chained in
    omega (arith, h.consistent.count)

-- the run that comes next
pub gathered-next : (rs : List Run) (gathered : Drafted) (low high bound i : ℕ) (d : Run)
    → AreGathered rs gathered low high bound → i < length gathered.records
    → drop (gathered.from + i) rs ≡ get_or gathered.records i d ∷ drop (gathered.from + (i + 1)) rs
gathered-next rs gathered low high bound i d g lt =
    let xs : List Run = take gathered.from rs in
    let within = g.within in
    let lx : length xs ≡ gathered.from = front_of rs gathered.from (omega arith) in
    let e : gathered.from + i + 1 ≡ gathered.from + (i + 1) = omega arith in
    let here : get_or rs (gathered.from + i) d ≡ get_or gathered.records i d
    = ap (λ zs. get_or zs (gathered.from + i) d) (sym g.same)
    ∙ ap (λ n. get_or (xs ++ (gathered.records ++ drop (end_index gathered) rs)) (n + i) d)
    (sym lx)
    ∙ get_or-append-add xs (gathered.records ++ drop (end_index gathered) rs) i d
    ∙ get_or_append_left gathered.records (drop (end_index gathered) rs) d i lt in
    rw e at (drop_more rs (gathered.from + i) d (omega arith))
    ∙ ap (λ r. r ∷ drop (gathered.from + (i + 1)) rs) here

pub gathered-here : (rs kept : List Run) (gathered : Drafted) (low high bound i : ℕ) (d : Run)
    → AreGathered rs gathered low high bound → i < length gathered.records
    → splice rs gathered.from (gathered.from + i) kept ≡
    take gathered.from rs ++ (kept ++ get_or gathered.records i d ∷ drop
    (gathered.from + (i + 1)) rs)
gathered-here rs kept gathered low high bound i d g lt =
    ap (λ zs. take gathered.from rs ++ (kept ++ zs))
    (gathered-next rs gathered low high bound i d g lt)

-- the number of blocks of runs
pub length-expanded : (next : List ℕ) (runs : List Run)
    → length (expanded next runs) ≡ blocks_of runs
length-expanded next [] = ap length (expanded-none next)
length-expanded next (run ∷ runs) =
    let a = ap length (expanded-more next run runs)
    ∙ length-append (singles_of next run) (expanded next runs) in
    let b = length-singles next run.start run.first run.count run.kind in
    let d = length-expanded next runs in
    let e = sum_by-cons (λ (r : Run). r.count) run runs in
    omega arith

pub blocks-fit : (records : List Run) (slots : Slots) (room : ℕ) → AreRuns records slots room
    → blocks_of records ≤ room
blocks-fit records slots room h = let e = length-expanded slots.next records in
    omega (arith, h.consistent.count)

pub gathered-blocks : (rs : List Run) (gathered : Drafted) (slots : Slots) (room low high bound : ℕ)
    → AreRuns rs slots room → AreGathered rs gathered low high bound
    → blocks_of gathered.records ≤ room
gathered-blocks rs gathered slots room low high bound h g =
    let count = λ (r : Run). r.count in
    let a = ap blocks_of g.same in
    let b = sum_by-append count (take gathered.from rs)
    (gathered.records ++ drop (end_index gathered) rs) in
    let d = sum_by-append count gathered.records (drop (end_index gathered) rs) in
    let e = blocks-fit rs slots room h in
    omega arith
