-- Going over the addresses of runs.
use Rattle.std.proofs.Common.{◌≡◌, ◌≢◌, ℕ, ◌+◌, ◌-◌, ◌<◌, ◌≤◌, List, [], ◌∷◌, ◌++◌, length, drop}
use Rattle.std.proofs.Common.{arith, refl, sym, ap, ◌∙◌, append_assoc, Option, Some, None, cond}
use Rattle.std.proofs.Common.{eq-eqb, length-append}
use Rattle.std.proofs.lemmas.Bool.{cond_both, cond-false, eqb-true, eqb-false, ne_eqb}
use Rattle.std.specs.Cmp.{nat_cmp_total}
use Rattle.std.specs.FinMap as map
use Rattle.std.specs.FinMap.{find, get-from_entries}
use Rattle.std.specs.Ordering.{nat_cmp}
use Rattle.std.specs.Prelude.{slice_index, option_to_list, IfSome, unwrap_or, ◌==◌}
use Rattle.sg_pool.specs.Chains.{chain, AreBelow}
use Rattle.sg_store.specs.Disk.{Mapping, data_in, block, max_capacity}
use Rattle.sg_pool.specs.MappedRecords.{Seen, entries_by, contents_by}
use Rattle.sg_table.specs.Records.{run_at, single}
use Rattle.sg_table.specs.Records.{slots_of}
use Rattle.sg_table.specs.declared.run.Run.{Run}
use Rattle.sg_block_map.specs.Gathering.{AreNear}
use Rattle.sg_block_map.specs.Runs.{singles, singles_of, expanded, AreChained}
use Rattle.sg_pool.specs.Rising.{end_of, AreApart, AreBetween}
use Rattle.sg_block_map.specs.Runs.{Bound, any_from, behind, AreMaximalIn}
use Rattle.sg_block_map.specs.Splitting.{rest_of, IsFront, IsRest}
use Rattle.sg_block_map.specs.Walking.{ahead_of, passed, AreAhead, IsWalkFrom}
use Rattle.sg_store.proofs.DiskLemmas.{eq_other}
use Rattle.sg_pool.proofs.LinkLemmas.{slot_after-none, slot_after-one}
use Rattle.sg_store.proofs.DiskLemmas.{eq_same}
use Rattle.sg_block_map.proofs.BetweenLemmas.{between-expanded, between-singles}
use Rattle.sg_pool.proofs.RisingLemmas.{between-weaker}
use Rattle.sg_pool.proofs.RisingLemmas.{apart-weaker, apart-le}
use Rattle.sg_block_map.proofs.OrderLemmas.{maximal-from, behind-low, behind-at-most}
use Rattle.sg_pool.proofs.ContentsLemmas.{find-below, find-above, find-right}
use Rattle.sg_block_map.proofs.ExpandedLemmas.{expanded-more, expanded-none, expanded-append}
use Rattle.sg_block_map.proofs.ExpandedLemmas.{singles-one, slots-append, chained-append}
use Rattle.sg_block_map.proofs.ExpandedLemmas.{chained-right, slots-singles, length-singles}
use Rattle.sg_pool.proofs.LinkLemmas.{slot-below, below-left, below-right}
use Rattle.sg_block_map.proofs.SplitLemmas.{split-parts}
use Rattle.sg_block_map.proofs.SplitLemmas.{rest-chain, expanded-one}

pub passed-by : (P : List Run → Type 0) (next : List ℕ) (run : Run) (more : List Run)
    → 0 < run.count → (run.count ≡ 1 → P more) → (1 < run.count → P (rest_of next run 1 ∷ more))
    → P (passed next run more)
passed-by P next run more some f g = cond_both (run.count == 1) more (rest_of next run 1 ∷ more) P
    (λ e. f (eqb-true run.count 1 e))
    (λ e. let other = eqb-false run.count 1 e in g (omega arith))

-- the rest after `pass`, if the run has more addresses
pub passed-rest : (next : List ℕ) (run : Run) (more : List Run) (first : ℕ) → run.count ≢ 1
    → first ≡ slice_index next run.first
    → record {
      start = run.start + 1;
      count = run.count - 1;
      first = first;
      last = run.last;
      kind = run.kind;
    } ∷ more ≡ passed next run more
passed-rest next run more first other e =
    ap (λ s. record {
      start = run.start + 1;
      count = run.count - 1;
      first = s;
      last = run.last;
      kind = run.kind;
    } ∷ more) (e ∙ sym (slot_after-one next run.first))
    ∙ sym (cond-false (run.count == 1) more (rest_of next run 1 ∷ more) (ne_eqb run.count 1 other))

singles-first : (next : List ℕ) (run : Run) → 1 < run.count
    → singles_of next run ≡ single run.start run.first run.kind ∷ singles_of next (rest_of next run 1)
singles-first next run some = sym (split-parts next run 1 (omega arith))
    ∙ ap (λ xs. xs ++ singles_of next (rest_of next run 1)) (singles-one next run.start run.first run.kind)

pub passed-expanded : (next : List ℕ) (run : Run) (more : List Run) → 0 < run.count
    → expanded next (run ∷ more) ≡ single run.start run.first run.kind
    ∷ expanded next (passed next run more)
passed-expanded next run more some = passed-by
    (λ xs. expanded next (run ∷ more) ≡ single run.start run.first run.kind ∷ expanded next xs)
    next run more
    some
    (λ one. expanded-more next run more ∙ ap (λ xs. xs ++ expanded next more)
    (ap (λ n. singles next run.start run.first n run.kind) one
    ∙ singles-one next run.start run.first run.kind))
    (λ many. expanded-more next run more ∙ ap (λ xs. xs ++ expanded next more)
    (singles-first next run many) ∙ ap (λ xs. single run.start run.first run.kind ∷ xs)
    (sym (expanded-more next (rest_of next run 1) more)))

pub passed-ahead : (next : List ℕ) (count lba : ℕ) (run : Run) (more : List Run)
    → AreAhead next count lba (run ∷ more) → run.start ≡ lba
    → AreAhead next count (lba + 1) (passed next run more)
passed-ahead next count lba run more h at =
    let some = h.chained.0.not_empty in
    let below = rw (ap slots_of (passed-expanded next run more some)) at h.below in
    record {
      apart = passed-by (AreApart (lba + 1) max_capacity) next run more some
          (λ one. apart-weaker more (end_of run) max_capacity (lba + 1) max_capacity (omega arith)
          (omega arith) h.apart.2)
          (λ many. let same : run.start + 1 + (run.count - 1) ≡ end_of run = omega arith in
          (omega arith, omega arith, rw same h.apart.2));
      chained = passed-by (AreChained next) next run more some (λ one. h.chained.1)
          (λ many. (rest-chain next run 1 many h.chained.0, h.chained.1));
      below = below-right count (run.first ∷ [])
          (slots_of (expanded next (passed next run more))) below;
    }

pub not_there : (run : Run) (lba : ℕ) → run_at (Some run) lba ≡ None → run.start ≡ lba → ⊥
not_there run lba none same = let is : run_at (Some run) lba ≡ Some run =
    ap (λ b. cond b (Some run) None) (eq-eqb run.start lba same) in cc

pub there : (run : Option Run) (lba : ℕ) (found : Run) → run_at run lba ≡ Some found
    → (run ≡ Some found) × (found.start ≡ lba)
there None lba found e = let wrong = e in cc
there (Some run) lba found e = cond_both (run.start == lba) (Some run) None
    (λ o. o ≡ Some found → (Some run ≡ Some found) × (found.start ≡ lba))
    (λ at same. (
      same,
      ap (λ (r : Run). r.start) (sym (ap (λ o. unwrap_or o run) same))
          ∙ eqb-true run.start lba at,
    )) (λ _ wrong. cc) e

-- the run that is ahead first
pub ahead-first : (next : List ℕ) (count lba : ℕ) (run : Run) (more : List Run)
    → AreAhead next count lba (run ∷ more)
    → AreBelow count (chain next run.first run.count) × (end_of run ≤ max_capacity)
    × (run.count ≤ length (expanded next (run ∷ more))) × (run.first < count)
ahead-first next count lba run more h =
    let some = h.chained.0.not_empty in
    let slots : slots_of (expanded next (run ∷ more)) ≡
    chain next run.first run.count ++ slots_of (expanded next more)
    = ap slots_of (expanded-more next run more)
    ∙ slots-append (singles_of next run) (expanded next more)
    ∙ ap (λ xs. xs ++ slots_of (expanded next more))
    (slots-singles next run.start run.first run.count run.kind) in
    let below = below-left count (chain next run.first run.count) (slots_of (expanded next more))
    (rw slots at h.below) in
    let rest = apart-le more (end_of run) max_capacity h.apart.2 in
    let len = ap length (expanded-more next run more)
    ∙ length-append (singles_of next run) (expanded next more) in
    let own = length-singles next run.start run.first run.count run.kind in
    let first = rw (slot_after-none next run.first) at
    (slot-below count next run.first 0 run.count some below) in
    (below, omega arith, omega arith, first)

-- no run begins at the address
pub ahead-skip : (next : List ℕ) (count lba at : ℕ) (runs : List Run) (run : Option Run)
    → AreAhead next count lba (ahead_of runs run at) → lba < max_capacity → run_at run lba ≡ None
    → AreAhead next count (lba + 1) (ahead_of runs run at)
ahead-skip next count lba at runs None h low none =
    record { apart = omega arith; chained = h.chained; below = h.below }
ahead-skip next count lba at runs (Some run) h low none =
    let off : run.start ≢ lba = λ same. not_there run lba none same in
    record {
      apart = (omega (arith, h.apart.0), h.apart.1, h.apart.2);
      chained = h.chained;
      below =
          h.below;
    }

-- the first address ahead
pub block-first : (f : Seen Mapping) (r : Run) (more : List Run)
    → block (contents_by f (r ∷ more)) r.start ≡ data_in (Some (f r.first r.kind))
block-first f r more = ap data_in
    (get-from_entries nat_cmp_total (entries_by f (r ∷ more)) r.start
    ∙ ap (λ b. cond b (Some (f r.first r.kind))
    (find nat_cmp r.start (entries_by f more))) (eq_same r.start r.start refl))

pub get-later : (f : Seen Mapping) (r : Run) (more : List Run) (q : ℕ) → q ≢ r.start
    → map.get (contents_by f (r ∷ more)) q ≡ map.get (contents_by f more) q
get-later f r more q other = get-from_entries nat_cmp_total (entries_by f (r ∷ more)) q
    ∙ ap (λ b. cond b (Some (f r.first r.kind))
    (find nat_cmp q (entries_by f more))) (eq_other q r.start other)
    ∙ sym (get-from_entries nat_cmp_total (entries_by f more) q)

-- an address before those that are ahead
pub get-none : (next : List ℕ) (count lba q : ℕ) (runs : List Run) (f : Seen Mapping)
    → AreAhead next count lba runs → q < lba → map.get (contents_by f (expanded next runs)) q ≡
    None
get-none next count lba q runs f h lt = get-from_entries nat_cmp_total
    (entries_by f (expanded next runs)) q
    ∙ find-below (expanded next runs) f lba max_capacity q
    (between-expanded next runs lba max_capacity h.apart) lt

-- the runs from an address on
pub walk_from-parts : (next : List ℕ) (runs : List Run) (lba : ℕ) (front : Option Run)
    (more : List Run) → IsWalkFrom next runs lba front more
    → expanded next (option_to_list front ++ more) ≡ expanded next runs
walk_from-parts next [] lba front more h = rw (h.0, h.1) refl
walk_from-parts next (run ∷ runs) lba front more h =
    let fs : List Run = option_to_list front in let rs : List Run = option_to_list h.0 in
    ap (λ xs. expanded next (fs ++ xs)) h.2 ∙ ap (expanded next) (sym (append_assoc fs rs runs))
    ∙ expanded-append next (fs ++ rs) runs ∙ ap (λ xs. xs ++ expanded next runs) h.1.parts
    ∙ sym (expanded-more next run runs)

pub walk_from-chained : (next : List ℕ) (runs : List Run) (lba : ℕ) (front : Option Run)
    (more : List Run) → AreChained next runs → IsWalkFrom next runs lba front more
    → AreChained next (option_to_list front ++ more)
walk_from-chained next [] lba front more k h = rw (h.0, h.1) tt
walk_from-chained next (run ∷ runs) lba front more k h =
    let fs : List Run = option_to_list front in let rs : List Run = option_to_list h.0 in
    rw (h.2, sym (append_assoc fs rs runs)) (chained-append next (fs ++ rs) runs h.1.chained k.1)

walk_from-rest : (run : Run) (rest : Option Run) (runs ys : List Run) (lba : ℕ) (bound : Bound)
    → IfSome rest (IsRest run lba) → lba ≤ end_of run
    → IfSome rest (λ (part : Run). 0 < part.count)
    → AreMaximalIn (behind run) bound (runs ++ ys)
    → AreMaximalIn (any_from lba) bound ((option_to_list rest ++ runs) ++ ys)
walk_from-rest run None runs ys lba bound after reach some h =
    maximal-from (runs ++ ys) (behind run) bound (any_from lba)
    (λ kind. omega (arith, behind-low run kind)) h
walk_from-rest run (Some rest) runs ys lba bound after reach some h = (
  after.1,
  some,
  maximal-from (runs ++ ys) (behind run) bound (behind rest)
      (behind-at-most rest run after.4 (omega (arith, after.2))) h,
)

rest-some : (next : List ℕ) (front rest : Option Run)
    → AreChained next (option_to_list front ++ option_to_list rest)
    → IfSome rest (λ (part : Run). 0 < part.count)
rest-some next front None k = tt
rest-some next front (Some rest) k =
    (chained-right next (option_to_list front) (rest ∷ []) k).0.not_empty

pub walk_from-maximal : (next : List ℕ) (runs ys : List Run) (lba high : ℕ) (low bound : Bound)
    (front : Option Run) (more : List Run) → AreMaximalIn low bound (runs ++ ys)
    → AreMaximalIn (any_from lba) bound ys → AreNear lba high runs
    → IsWalkFrom next runs lba front more → AreMaximalIn (any_from lba) bound (more ++ ys)
walk_from-maximal next [] ys lba high low bound front more h k near t = rw t.1 k
walk_from-maximal next (run ∷ runs) ys lba high low bound front more h k near t =
    rw t.2 (walk_from-rest run t.0 runs ys lba bound t.1.after near.0
    (rest-some next front t.0 t.1.chained) h.2)

-- the runs ahead have no address in common
walk_from-apart : (next : List ℕ) (runs : List Run) (lba high a b : ℕ) (front : Option Run)
    (more : List Run) → AreApart a b runs → lba ≤ b → AreNear lba high runs
    → IsWalkFrom next runs lba front more → AreApart lba b more
walk_from-apart next [] lba high a b front more h le near t = rw t.1 le
walk_from-apart next (run ∷ runs) lba high a b front more h le near t =
    rw t.2 (rest_apart t.0 t.1.after (rest-some next front t.0 t.1.chained))
  where
    rest_apart : (rest : Option Run) → IfSome rest (IsRest run lba)
        → IfSome rest (λ (part : Run). 0 < part.count) → AreApart lba b (option_to_list rest ++ runs)
    rest_apart None after some = apart-weaker runs (end_of run) b lba b near.0 (omega arith) h.2
    rest_apart (Some rest) after some = (after.1, some, rw (sym after.2) at h.2)

-- the runs ahead of the address are a part of all runs
pub walk_from-ahead : (next : List ℕ) (count : ℕ) (runs : List Run) (lba high : ℕ)
    (front : Option Run) (more : List Run) → AreAhead next count 0 runs → AreNear lba high runs
    → lba ≤ max_capacity → IsWalkFrom next runs lba front more → AreAhead next count lba more
walk_from-ahead next count runs lba high front more h near low t =
    let fs : List Run = option_to_list front in
    let parts : expanded next runs ≡ expanded next fs ++ expanded next more =
    sym (walk_from-parts next runs lba front more t) ∙ expanded-append next fs more in
    let slots : slots_of (expanded next runs) ≡
    slots_of (expanded next fs) ++ slots_of (expanded next more) = ap slots_of parts
    ∙ slots-append (expanded next fs) (expanded next more) in
    record {
      apart = walk_from-apart next runs lba high 0 max_capacity front more h.apart low near t;
      chained = chained-right next fs more (walk_from-chained next runs lba front more h.chained t);
      below = below-right count (slots_of (expanded next fs)) (slots_of (expanded next more))
          (rw (sym slots) h.below);
    }

-- the part before the address ends there
walk_from-end : (run front : Run) (lba high : ℕ) → lba ≤ end_of run → IsFront run lba front
    → end_of front ≡ lba
walk_from-end run front lba high reach h = omega (arith, h.1)

pub walk_from-between : (next : List ℕ) (runs : List Run) (lba high : ℕ) (front : Option Run)
    (more : List Run) → IsWalkFrom next runs lba front more
    → AreBetween 0 lba (expanded next (option_to_list front))
walk_from-between next [] lba high front more t = rw (t.0, expanded-none next) (omega arith)
walk_from-between next (run ∷ runs) lba high None more t = rw (expanded-none next) (omega arith)
walk_from-between next (run ∷ runs) lba high (Some front) more t =
    let f = t.1.before in
    rw (expanded-one next front) (between-weaker (singles_of next front) front.start
    (end_of front) 0 lba (omega arith) (omega (arith, f.1))
    (between-singles next front.start front.first front.count front.kind))

-- from the address on the runs ahead have all the contents
pub get-walk_from : (next : List ℕ) (runs : List Run) (lba high q : ℕ) (front : Option Run)
    (more : List Run) (f : Seen Mapping) → IsWalkFrom next runs lba front more → lba ≤ q
    → map.get (contents_by f (expanded next runs)) q ≡
    map.get (contents_by f (expanded next more)) q
get-walk_from next runs lba high q front more f t le =
    let fs : List Run = option_to_list front in
    let parts : expanded next runs ≡ expanded next fs ++ expanded next more =
    sym (walk_from-parts next runs lba front more t) ∙ expanded-append next fs more in
    ap (λ xs. map.get (contents_by f xs) q) parts
    ∙ get-from_entries nat_cmp_total (entries_by f (expanded next fs ++ expanded next more)) q
    ∙ find-right (expanded next fs) (expanded next more) f q
    (find-above (expanded next fs) f 0 lba q
    (walk_from-between next runs lba high front more t) le)
    ∙ sym (get-from_entries nat_cmp_total (entries_by f (expanded next more)) q)

-- the first run ahead has the address
module _ (next : List ℕ) (count lba at : ℕ) (runs : List Run) (run : Option Run) (found : Run)
    (h : AreAhead next count lba (ahead_of runs run at)) (is : run_at run lba ≡ Some found) where
  pub first-there : AreAhead next count lba (found ∷ drop at runs)
  first-there = rw (ap (λ o. ahead_of runs o at) (there run lba found is).0) at h

  pub first-slot : found.first < count
  first-slot = (ahead-first next count lba found (drop at runs) first-there).3

  pub first-block : (f : Seen Mapping) → block
      (contents_by f (expanded next (ahead_of runs run at))) lba ≡
      data_in (Some (f found.first found.kind))
  first-block f =
      let t = there run lba found is in
      ap (λ o. block (contents_by f (expanded next (ahead_of runs o at))) lba) t.0
      ∙ ap (λ xs. block (contents_by f xs) lba)
      (passed-expanded next found (drop at runs) first-there.chained.0.not_empty)
      ∙ ap (λ q. block (contents_by f (single found.start found.first found.kind ∷ expanded next
      (passed next found (drop at runs)))) q) (sym t.1)
      ∙ block-first f (single found.start found.first found.kind)
      (expanded next (passed next found (drop at runs)))

  pub first-ahead : AreAhead next count (lba + 1) (passed next found (drop at runs))
  first-ahead = passed-ahead next count lba found (drop at runs) first-there
      (there run lba found is).1

  pub first-later : (f : Seen Mapping) (q : ℕ) → lba + 1 ≤ q
      → map.get (contents_by f (expanded next (passed next found (drop at runs)))) q ≡
      map.get (contents_by f (expanded next (ahead_of runs run at))) q
  first-later f q le =
      let t = there run lba found is in
      let other : q ≢ found.start = λ same. let at = t.1 in absurd (omega arith) in
      sym (ap (λ o. map.get (contents_by f (expanded next (ahead_of runs o at))) q) t.0
      ∙ ap (λ xs. map.get (contents_by f xs) q)
      (passed-expanded next found (drop at runs) first-there.chained.0.not_empty)
      ∙ get-later f (single found.start found.first found.kind)
      (expanded next (passed next found (drop at runs))) q other)

  pub first-length : length (expanded next (ahead_of runs run at)) ≡
      length (expanded next (passed next found (drop at runs))) + 1
  first-length =
      let t = there run lba found is in
      let e = ap length (passed-expanded next found (drop at runs) first-there.chained.0.not_empty) in
      ap (λ o. length (expanded next (ahead_of runs o at))) t.0 ∙ omega arith

-- no run begins there
pub skip-block : (next : List ℕ) (count lba at : ℕ) (runs : List Run) (run : Option Run)
    (f : Seen Mapping) → AreAhead next count lba (ahead_of runs run at) → lba < max_capacity
    → run_at run lba ≡ None
    → map.get (contents_by f (expanded next (ahead_of runs run at))) lba ≡ None
skip-block next count lba at runs run f h low none =
    get-none next count (lba + 1) lba (ahead_of runs run at) f
    (ahead-skip next count lba at runs run h low none) (omega arith)

-- the slot of the run ahead, if there is one
pub ahead-slot : (next : List ℕ) (count lba at : ℕ) (runs : List Run) (run : Option Run)
    → AreAhead next count lba (ahead_of runs run at) → IfSome run (λ r. r.first < count)
ahead-slot next count lba at runs None h = tt
ahead-slot next count lba at runs (Some run) h =
    (ahead-first next count lba run (drop at runs) h).3
