-- The records are the maximal runs of their contents.
use Rattle.std.proofs.Common.{◌≡◌, ℕ, ◌+◌, ◌-◌, ◌<◌, ◌≤◌, zero, suc, List, [], ◌∷◌, ◌++◌, length}
use Rattle.std.proofs.Common.{take, drop, arith, refl, sym, ap, ap₂, ◌∙◌, cond, true, false}
use Rattle.std.proofs.Math.Bool.{and-false}
use Rattle.std.proofs.lemmas.Bool.Decides.{nat_tests}
use Rattle.std.proofs.lemmas.List.{map-append, length-map}
use Rattle.std.proofs.lemmas.List.Sums.{sum_by-append, sum_by-cons, count_by-le-length}
use Rattle.std.specs.List.{count_by, sum_by}
use Rattle.std.specs.Prelude.{map, slice_index, nat_lt, nat_le, ◌==◌, ◌&&◌, min, max}
use Rattle.sg_store.specs.Disk.{Mapping}
use Rattle.sg_table.specs.Draft.{Drafted}
use Rattle.sg_pool.specs.MappedRecords.{Seen, mapping_in, entries_by, contents_of}
use Rattle.sg_table.specs.declared.run.Kind.{Kind}
use Rattle.sg_table.specs.declared.run.Kind.TheVariants.{Data as DataRun, Anchored as AnchoredRun}
use Rattle.sg_table.specs.declared.run.Run.{Run}
use Rattle.sg_block_map.specs.Gathering.{starts_in, AreNear, AreGathered, end_index}
use Rattle.sg_pool.specs.MappedRecords.{kind_of}
use Rattle.sg_block_map.specs.MaximalRuns.{AddressRun, run_from, with_address}
use Rattle.sg_block_map.specs.MaximalRuns.{runs_of, runs, meets, meet, blocks_if_near, blocks_near}
use Rattle.sg_block_map.specs.Runs.{singles, singles_of, expanded, AreMaximal}
use Rattle.sg_pool.specs.Rising.{end_of, AreApart}
use Rattle.sg_block_map.specs.Runs.{Bound, any_from, behind, AreMaximalIn, address_run, blocks_of}
use Rattle.sg_pool.proofs.EntryLemmas.{entries-append, entries-sorted}
use Rattle.sg_table.specs.Records.{IsSorted, same_kind}
use Rattle.sg_block_map.proofs.BetweenLemmas.{between-expanded}
use Rattle.sg_pool.proofs.RisingLemmas.{apart-le, sorted-between}
use Rattle.sg_block_map.proofs.OrderLemmas.{apart-loose}
use Rattle.sg_block_map.proofs.ExpandedLemmas.{expanded-more, expanded-none}
use Rattle.sg_store.proofs.DiskLemmas.{count-more}
use Rattle.sg_block_map.proofs.GatheringLemmas.{count-append}

-- the view of blocks shows the kinds
blocks-show : (bs : List (List ℕ)) (slot : ℕ) (kind : Kind) → kind_of (mapping_in bs slot kind) ≡ kind
blocks-show bs slot DataRun = refl
blocks-show bs slot AnchoredRun = refl

-- the first of some runs begins at a bound or past it
abbrev IsPast : Bound → List AddressRun → Type 0
IsPast low [] = Unit
IsPast low (run ∷ rs) = low run.kind ≤ run.start

-- it could be joined to none that ends at an address and has a kind
off : (a start : ℕ) (j k : Kind) → cond (same_kind k j) (a + 1) a ≤ start → a ≤ start
    → (start == a && same_kind j k) ≡ false
off a start DataRun DataRun h l = grind (arith, nat_tests)
off a start DataRun AnchoredRun h l = and-false (start == a)
off a start AnchoredRun DataRun h l = and-false (start == a)
off a start AnchoredRun AnchoredRun h l = grind (arith, nat_tests)

low_end : (a start : ℕ) (j k : Kind) → cond (same_kind k j) (a + 1) a ≤ start → a ≤ start
low_end a start DataRun DataRun h = omega arith
low_end a start DataRun AnchoredRun h = h
low_end a start AnchoredRun DataRun h = h
low_end a start AnchoredRun AnchoredRun h = omega arith

on : (m : ℕ) (k : Kind) → (m == m && same_kind k k) ≡ true
on m DataRun = grind (arith, nat_tests)
on m AnchoredRun = grind (arith, nat_tests)

alone : (a : ℕ) (k : Kind) (rs : List AddressRun)
    → IsPast (λ j. cond (same_kind j k) (a + 1 + 1) (a + 1)) rs
    → with_address a k rs ≡ run_from a 1 k ∷ rs
alone a k [] h = refl
alone a k (run ∷ rs) h =
    let low = low_end (a + 1) run.start k run.kind h in
    rw (off (a + 1) run.start k run.kind h low) refl

past_at : (rs : List AddressRun) (k : Kind) (m n : ℕ) → m ≡ n
    → IsPast (λ j. cond (same_kind j k) (m + 1) m) rs
    → IsPast (λ j. cond (same_kind j k) (n + 1) n) rs
past_at rs k m n e h = rw e at h

module _ (f : Seen Mapping) (shows : (slot : ℕ) (kind : Kind) → kind_of (f slot kind) ≡ kind)
    (next : List ℕ) where
  one-run : (start first n : ℕ) (kind : Kind) (more : List (ℕ × Mapping))
      → IsPast (λ j. cond (same_kind j kind) (start + suc n + 1) (start + suc n)) (runs_of more)
      → runs_of (entries_by f (singles next start first (suc n) kind) ++ more)
      ≡ run_from start (suc n) kind ∷ runs_of more
  unfolding singles
  one-run start first zero kind more h =
      ap (λ k. with_address start k (runs_of more)) (shows first kind)
      ∙ alone start kind (runs_of more) (past_at (runs_of more) kind (start + suc 0) (start + 1)
      (omega arith) h)
  one-run start first (suc n) kind more h =
      let g : suc n + 1 ≡ suc (suc n) = omega arith in
      let rest = one-run (start + 1) (slice_index next first) n kind more
      (past_at (runs_of more) kind (start + suc (suc n)) (start + 1 + suc n) (omega arith) h) in
      ap₂ (λ k rs. with_address start k rs) (shows first kind) rest
      ∙ rw (on (start + 1) kind) (ap (λ k. run_from start k kind ∷ runs_of more) g)

  past-addresses : (rs : List Run) (low high : Bound) → AreMaximalIn low high rs
      → IsPast low (map address_run rs)
  past-addresses [] low high h = tt
  past-addresses (run ∷ rs) low high h = h.0

  a_run : (run : Run) (n : ℕ) (more : List (ℕ × Mapping)) → run.count ≡ suc n
      → IsPast (behind run) (runs_of more)
      → runs_of (entries_by f (singles_of next run) ++ more) ≡ address_run run ∷ runs_of more
  a_run run n more e h =
      let g : end_of run ≡ run.start + suc n = omega (arith, e) in
      ap (λ k. runs_of (entries_by f (singles next run.start run.first k run.kind) ++ more)) e
      ∙ one-run run.start run.first n run.kind more
      (past_at (runs_of more) run.kind (end_of run) (run.start + suc n) g h)
      ∙ ap (λ k. run_from run.start k run.kind ∷ runs_of more) (sym e)

  runs-expanded : (rs : List Run) (low high : Bound) → AreMaximalIn low high rs
      → runs_of (entries_by f (expanded next rs)) ≡ map address_run rs
  runs-expanded [] low high h = ap (λ xs. runs_of (entries_by f xs)) (expanded-none next)
  runs-expanded (run ∷ rs) low high h =
      let rest = runs-expanded rs (behind run) high h.2 in
      let e : run.count ≡ suc (run.count - 1) = omega (arith, h.1) in
      let later : IsPast (behind run) (runs_of (entries_by f (expanded next rs))) =
      rw rest (past-addresses rs (behind run) high h.2) in
      ap (λ xs. runs_of (entries_by f xs)) (expanded-more next run rs)
      ∙ ap runs_of (entries-append f (singles_of next run) (expanded next rs))
      ∙ a_run run (run.count - 1) (entries_by f (expanded next rs)) e later
      ∙ ap (λ xs. address_run run ∷ xs) rest

-- the single addresses of maximal runs rise
pub maximal-expanded : (next : List ℕ) (rs : List Run) (a b : ℕ) → AreMaximal a b rs
    → IsSorted (expanded next rs)
maximal-expanded next rs a b h = sorted-between (expanded next rs) a b
    (between-expanded next rs a b (apart-loose rs a a b (omega arith) h))

-- the records are the maximal runs
pub runs-addresses : (next : List ℕ) (rs : List Run) (bs : List (List ℕ)) (a b : ℕ)
    → AreMaximal a b rs → runs (contents_of (expanded next rs) bs) ≡ map address_run rs
unfolding runs
runs-addresses next rs bs a b h =
    ap runs_of (entries-sorted (mapping_in bs) (expanded next rs) (maximal-expanded next rs a b h))
    ∙ runs-expanded (mapping_in bs) (blocks-show bs) next rs (any_from a) (any_from b) h

-- a run that begins in the range meets it
starts_meets : (lba count start n : ℕ) → 0 < n
    → cond {A = ℕ} (nat_le lba start && nat_lt start (lba + count)) 1 0 ≤ cond
    (nat_lt (max start lba) (min (start + n) (lba + count))) 1 0
starts_meets lba count start n some = grind (arith, nat_tests)

starts-le : (rs : List Run) (low high : Bound) (lba count : ℕ) → AreMaximalIn low high rs
    → count_by (starts_in lba (lba + count)) rs ≤ count_by (meets lba count) (map address_run rs)
starts-le [] low high lba count k = omega arith
starts-le (run ∷ rs) low high lba count k =
    omega (
      arith,
      starts_meets lba count run.start run.count k.1,
      starts-le rs (behind run) high lba count k.2,
      count-more (starts_in lba (lba + count)) run rs,
      count-more (meets lba count) (address_run run) (map address_run rs),
    )

pub starts-meet : (next : List ℕ) (rs : List Run) (bs : List (List ℕ)) (a b lba count : ℕ)
    → AreMaximal a b rs → count_by (starts_in lba (lba + count)) rs ≤ meet
    (contents_of (expanded next rs) bs) lba count
unfolding meet
starts-meet next rs bs a b lba count h = rw (runs-addresses next rs bs a b h)
    (starts-le rs (any_from a) (any_from b) lba count h)

-- the runs that were gathered are near
near_block : (lba high start n : ℕ) → lba ≤ start + n → start ≤ high
    → cond {A = ℕ} (nat_le lba (start + n) && nat_le start high) n 0 ≡ n
near_block lba high start n h k = grind (arith, nat_tests)

near-addresses : (ms : List Run) (lba count : ℕ) → AreNear lba (lba + count) ms
    → sum_by (blocks_if_near lba count) (map address_run ms) ≡ blocks_of ms
near-addresses [] lba count h = refl
near-addresses (run ∷ ms) lba count h =
    let one = near_block lba (lba + count) run.start run.count h.0 h.1 in
    let rest = near-addresses ms lba count h.2 in
    let a = sum_by-cons (blocks_if_near lba count) (address_run run) (map address_run ms) in
    let b = sum_by-cons (λ (r : Run). r.count) run ms in
    omega arith

pub near-gathered : (next : List ℕ) (rs : List Run) (bs : List (List ℕ)) (gathered : Drafted)
    (lba count bound : ℕ) → AreMaximal 0 bound rs
    → AreGathered rs gathered lba (lba + count) bound
    → blocks_of gathered.records ≤ blocks_near (contents_of (expanded next rs) bs) lba count
unfolding blocks_near
near-gathered next rs bs gathered lba count bound h g =
    let f = blocks_if_near lba count in
    let told_runs = runs-addresses next rs bs 0 bound h in
    let parts : map address_run rs ≡ map address_run (take gathered.from rs) ++
    (map address_run gathered.records ++ map address_run (drop (end_index gathered) rs))
    = ap (map address_run) (sym g.same) ∙ map-append address_run (take gathered.from rs)
    (gathered.records ++ drop (end_index gathered) rs)
    ∙ ap (λ xs. map address_run (take gathered.from rs) ++ xs)
    (map-append address_run gathered.records (drop (end_index gathered) rs)) in
    let a = sum_by-append f (map address_run (take gathered.from rs))
    (map address_run gathered.records ++ map address_run (drop (end_index gathered) rs)) in
    let b = sum_by-append f (map address_run gathered.records)
    (map address_run (drop (end_index gathered) rs)) in
    let own = near-addresses gathered.records lba count g.near in
    rw (told_runs, parts) (omega arith)

-- runs that end before a range, and runs that begin past it, do not meet it
pub ends_before : (lba count start n : ℕ) → start + n ≤ lba
    → cond {A = ℕ} (nat_lt (max start lba) (min (start + n) (lba + count))) 1 0 ≡ 0
ends_before lba count start n le = grind (arith, nat_tests)

pub begins_past : (lba count start n : ℕ) → lba + count ≤ start
    → cond {A = ℕ} (nat_lt (max start lba) (min (start + n) (lba + count))) 1 0 ≡ 0
begins_past lba count start n le = grind (arith, nat_tests)

none-before : (rs : List Run) (a lba count : ℕ) → AreApart a lba rs
    → count_by (meets lba count) (map address_run rs) ≡ 0
none-before [] a lba count h = omega arith
none-before (run ∷ rs) a lba count h =
    let le = apart-le rs (end_of run) lba h.2 in
    omega (
      arith,
      ends_before lba count run.start run.count (omega (arith, le)),
      none-before rs (end_of run) lba count h.2,
      count-more (meets lba count) (address_run run) (map address_run rs),
    )

none-after : (rs : List Run) (a b lba count : ℕ) → AreApart a b rs → lba + count ≤ a
    → count_by (meets lba count) (map address_run rs) ≡ 0
none-after [] a b lba count h le = omega arith
none-after (run ∷ rs) a b lba count h le =
    omega (
      arith,
      begins_past lba count run.start run.count (omega (arith, h.0)),
      none-after rs (end_of run) b lba count h.2 (omega (arith, h.0)),
      count-more (meets lba count) (address_run run) (map address_run rs),
    )

-- the runs that meet a range are among the gathered runs
pub meet-gathered : (next : List ℕ) (rs : List Run) (bs : List (List ℕ)) (gathered : Drafted)
    (lba count bound : ℕ) → AreMaximal 0 bound rs
    → AreGathered rs gathered lba (lba + count) bound
    → meet (contents_of (expanded next rs) bs) lba count ≤ length gathered.records
unfolding meet
meet-gathered next rs bs gathered lba count bound h g =
    let addresses = runs-addresses next rs bs 0 bound h in
    let front = map address_run (take gathered.from rs) in
    let back = map address_run (drop (end_index gathered) rs) in
    let parts : map address_run rs ≡ front ++ (map address_run gathered.records ++ back)
    = ap (map address_run) (sym g.same) ∙ map-append address_run (take gathered.from rs)
    (gathered.records ++ drop (end_index gathered) rs)
    ∙ ap (λ xs. front ++ xs) (map-append address_run gathered.records
    (drop (end_index gathered) rs)) in
    let a = count-append (meets lba count) front (map address_run gathered.records ++ back) in
    let b = count-append (meets lba count) (map address_run gathered.records) back in
    let x = none-before (take gathered.from rs) 0 lba count
    (apart-loose (take gathered.from rs) 0 0 lba (omega arith) g.before) in
    let y = none-after (drop (end_index gathered) rs) (lba + count) bound lba count
    (apart-loose (drop (end_index gathered) rs) (lba + count + 1) (lba + count) bound (omega arith)
    g.after) (omega arith) in
    let z = count_by-le-length (meets lba count) (map address_run gathered.records) in
    rw (addresses, parts) (omega (arith, length-map gathered.records address_run))

meets_none : (lba count start n : ℕ) → count ≡ 0
    → cond {A = ℕ} (nat_lt (max start lba) (min (start + n) (lba + count))) 1 0 ≡ 0
meets_none lba count start n e = grind (arith, nat_tests)

-- no run meets a range of no address
pub none-meet : (rs : List AddressRun) (lba count : ℕ) → count ≡ 0 → count_by (meets lba count) rs ≡ 0
none-meet [] lba count e = omega arith
none-meet (run ∷ rs) lba count e = omega (
  arith,
  meets_none lba count run.start run.count e,
  none-meet rs lba count e,
  count-more (meets lba count) run rs,
)
