-- The descriptors of runs, and the visits that they take.
use Rattle.std.proofs.Common.{◌≡◌, ◌≢◌, ℕ, ◌+◌, ◌-◌, ◌<◌, ◌≤◌, zero, suc, List, [], ◌∷◌, length}
use Rattle.std.proofs.Common.{arith, refl, sym, ap, ◌∙◌, ◌⊎◌, inl, inr, Option, Some, None}
use Rattle.std.proofs.lemmas.Bool.{cases_lt, leb-true, leb-false}
use Rattle.std.proofs.lemmas.List.Sums.{sum_by-cons}
use Rattle.std.specs.FinMap.{get}
use Rattle.std.specs.Prelude.{slice_index_or, min, nat_le}
use Rattle.sg_store.specs.Disk.{IsWellFormed, max_capacity}
use Rattle.sg_pool.specs.Slots.{max_slots, Slots}
use Rattle.sg_store.specs.LbaStatus.{descriptor_at, status_at, status_in}
use Rattle.sg_table.specs.Records.{start_of, IsSorted, IsLowerBound, IsNext, ahead, end_of_gap}
use Rattle.sg_pool.specs.MappedRecords.{mapping_in, contents_of, status_of_kind}
use Rattle.sg_table.specs.Table.{Table, visited, probed}
use Rattle.sg_table.specs.declared.cursor.Cursor.{Cursor}
use Rattle.sg_wire.specs.declared.lba_status.ProvisioningStatus.TheVariants.{Deallocated}
use Rattle.sg_wire.specs.declared.lba_status.StatusDescriptor.{StatusDescriptor}
use Rattle.sg_store.specs.declared.lba_status.TheConstants.{MAX_ADDRESSES}
use Rattle.sg_table.specs.declared.run.Kind.{Kind}
use Rattle.sg_table.specs.declared.run.Kind.TheVariants.{Data as DataRun, Anchored as AnchoredRun}
use Rattle.sg_table.specs.declared.run.Run.{Run}
use Rattle.sg_block_map.specs.Gathering.{end_at}
use Rattle.sg_block_map.specs.Runs.{expanded, any_from, behind, Bound, AreChained}
use Rattle.sg_pool.specs.Rising.{end_of, AreApart}
use Rattle.sg_block_map.specs.Runs.{AreMaximalIn, AreRuns, chained_contents, blocks_of}
use Rattle.sg_block_map.specs.Status.{IsRunTable, IsOver, run_over, AreMet, AreFrom}
use Rattle.sg_store.proofs.DescriptorLemmas.{described}
use Rattle.sg_store.proofs.WellFormedLemmas.{below-some}
use Rattle.sg_table.proofs.RecordLemmas.{start_of-read, picked, dropped}
use Rattle.sg_pool.proofs.MappedLemmas.{status-seen}
use Rattle.sg_table.proofs.TableLemmas.{visited-more, visited-less}
use Rattle.sg_block_map.proofs.OrderLemmas.{maximal-sorted, apart-maximal, behind-high}
use Rattle.sg_block_map.proofs.RunSlotLemmas.{runs-fit, blocks-fit}
use Rattle.sg_block_map.proofs.GatheringLemmas.{end_at-read}
use Rattle.sg_block_map.proofs.AddressLemmas.{kind_at, kinds-differ, get-inside, get-outside}
use Rattle.sg_block_map.proofs.AddressLemmas.{contains-inside, apart-order, ends-within}

-- the runs of a disk have no address in common
apart : {capacity : ℕ} {rs : List Run} → IsRunTable capacity rs → AreApart 0 capacity rs
apart {capacity} {rs} t = apart-maximal rs 0 capacity (omega arith) t.maximal

-- the status that is seen
status_kind : (bs : List (List ℕ)) (slot : ℕ) (j k : Kind)
    → status_in (Some (mapping_in bs slot j)) ≡ status_of_kind k → j ≡ k
status_kind bs slot DataRun DataRun e = refl
status_kind bs slot DataRun AnchoredRun e = let wrong = e in cc
status_kind bs slot AnchoredRun DataRun e = let wrong = e in cc
status_kind bs slot AnchoredRun AnchoredRun e = refl

none_status : (kind : Kind) → Deallocated ≡ status_of_kind kind → ⊥
none_status DataRun e = let wrong = e in cc
none_status AnchoredRun e = let wrong = e in cc

kind_at-read : (rs : List Run) (i : ℕ) (r : Run) → i < length rs → slice_index_or rs i r ≡ r
    → kind_at rs i ≡ r.kind
kind_at-read [] i r lt e = absurd (omega arith)
kind_at-read (x ∷ rs) zero r lt e = ap (λ (y : Run). y.kind) e
kind_at-read (x ∷ rs) (suc i) r lt e = kind_at-read rs i r (omega arith) e

-- the run of an address, from the cursor
over : (rs : List Run) (next : Option Run) (p lba : ℕ) (run : Run) → IsNext rs p next
    → run_over next lba ≡ Some run → (p < length rs) × (slice_index_or rs p run ≡ run)
    × (run.start ≤ lba)
over rs None p lba run n e = let wrong = e in cc
over rs (Some r) p lba run n e =
    let both = picked (nat_le r.start lba) r run e in (
      n.0,
      ap (λ y. slice_index_or rs p y) (sym both.1) ∙ n.1
          ∙ both.1,
      omega (arith, leb-true r.start lba both.0, ap (λ (y : Run). y.start) both.1),
    )

-- a run of the address
module _ (rs : List Run) (capacity lba : ℕ) (cursor : Cursor) (t : IsRunTable capacity rs)
    (at : IsOver rs cursor lba) (run : Run) (is : run_over cursor.next lba ≡ Some run) where
  there : (cursor.index < length rs) × (slice_index_or rs cursor.index run ≡ run)
      × (run.start ≤ lba)
  there = over rs cursor.next cursor.index lba run at.next is

  pub over-start : run.start ≡ start_of rs cursor.index
  over-start = start_of-read rs cursor.index run there.0 (sym there.1)

  pub over-end : end_of run ≡ end_at rs cursor.index
  over-end = end_at-read rs cursor.index run there.0 (sym there.1)

  pub over-low : run.start ≤ lba
  over-low = there.2

  pub over-index : cursor.index < length rs
  over-index = there.0

  pub over-high : lba < end_of run
  over-high = omega (arith, over-end, at.after cursor.index (omega arith) there.0)

  pub over-within : end_of run ≤ capacity
  over-within = omega (
    arith,
    over-end,
    ends-within rs 0 capacity cursor.index (apart t) there.0,
  )

  pub over-short : end_of run ≤ run.start + max_slots
  over-short = omega (arith, over-end, over-start, t.short cursor.index there.0)

  over_kind : kind_at rs cursor.index ≡ run.kind
  over_kind = kind_at-read rs cursor.index run there.0 there.1

  -- the next run, if there is one right after it, is of the other kind
  over_stop : (next : List ℕ) (bs : List (List ℕ))
      → status_at (contents_of (expanded next rs) bs) (end_of run) ≢ status_of_kind run.kind
  over_stop next bs same = elim (cases_lt (suc cursor.index) (length rs)) [
    | inl lt ↦ elim (cases_lt (end_of run) (start_of rs (suc cursor.index))) [
      | inl gap ↦ nothing_there (λ i low. elim (cases_lt cursor.index i) [
        | inl behind ↦ inl (later i behind low gap)
        | inr up ↦ inr (ended i low up)
      ])
      | inr touches ↦
          let order = apart-order rs 0 capacity cursor.index (suc cursor.index) (apart t)
          (omega arith) lt in
          let start : start_of rs (suc cursor.index) ≡ end_of run =
          omega (arith, over-end, order, touches) in
          let filled = t.filled (suc cursor.index) lt in
          let found = get-inside next rs (mapping_in bs) 0 capacity (suc cursor.index) (end_of run)
          (apart t) lt (omega (arith, start)) (omega (arith, start, filled)) in
          kinds-differ rs (any_from 0) (any_from (capacity + 1)) cursor.index t.maximal lt
          (omega (arith, start, over-end))
          (status_kind bs found.0 (kind_at rs (suc cursor.index)) (kind_at rs cursor.index)
          (sym (ap status_in found.1) ∙ same ∙ ap status_of_kind (sym over_kind)))
    ]
    | inr last ↦ nothing_there (λ i low. inr (ended i low (omega (arith, last, low))))
  ]
    where
      ended : (i : ℕ) → i < length rs → i ≤ cursor.index → end_at rs i ≤ end_of run
      ended i low le = elim (cases_lt i cursor.index) [
        | inl before ↦ omega (arith, over-high, at.before i before)
        | inr same ↦ let e : i ≡ cursor.index = omega arith in
            omega (arith, over-end, ap (end_at rs) e)
      ]

      later : (i : ℕ) → cursor.index < i → i < length rs
          → end_of run < start_of rs (suc cursor.index) → end_of run < start_of rs i
      later i behind low gap = elim (cases_lt (suc cursor.index) i) [
        | inl past ↦
            let order = apart-order rs 0 capacity (suc cursor.index) i (apart t) past low in
            let filled = t.filled (suc cursor.index) (omega arith) in
            omega (arith, order, filled, gap)
        | inr here ↦ let e : i ≡ suc cursor.index = omega arith in
            omega (arith, gap, ap (start_of rs) e)
      ]

      nothing_there : ((i : ℕ) → i < length rs
          → (end_of run < start_of rs i) ⊎ (end_at rs i ≤ end_of run)) → ⊥
      nothing_there h = none_status run.kind
          (sym (ap status_in (get-outside next rs (mapping_in bs) (end_of run) h)) ∙ same)

  module _ (k : ℕ) (long : lba + k ≡ end_of run) where
    pub over-described : (next : List ℕ) (bs : List (List ℕ))
        → ◌≡◌ {A = StatusDescriptor}
        (record { lba = lba; count = k; status = status_of_kind run.kind })
        (descriptor_at (contents_of (expanded next rs) bs) capacity lba)
    over-described next bs =
        let first : lba + 0 ≡ lba = omega arith in
        let all : (i : ℕ) → i < k
        → status_at (contents_of (expanded next rs) bs) (lba + i) ≡ status_of_kind run.kind
        = λ i lt.
        let found = get-inside next rs (mapping_in bs) 0 capacity cursor.index (lba + i) (apart t)
        there.0 (omega (arith, over-start, over-low)) (omega (arith, over-end)) in
        ap status_in found.1 ∙ status-seen bs found.0 (kind_at rs cursor.index)
        ∙ ap status_of_kind over_kind in
        described (contents_of (expanded next rs) bs) capacity lba k (status_of_kind run.kind)
        (rw first at (all 0 (omega (arith, over-high))))
        (omega (arith, over-within, over-short, over-low))
        all
        (λ _. rw long (over_stop next bs))

    pub over-met : AreMet rs cursor.index (cursor.index + 1) lba (lba + k)
    over-met i ge lt = let e : i ≡ cursor.index = omega arith in
        rw e (omega (arith, over-end, over-high), omega (arith, over-start, over-low, over-high))

    pub over-rest : AreFrom rs (cursor.index + 1) (lba + k)
    over-rest i ge lt = omega (
      arith,
      over-end,
      apart-order rs 0 capacity cursor.index i (apart t) (omega arith) lt,
    )

    pub over-on : (end : Cursor) → end.index ≡ cursor.index + 1
        → IsNext rs (cursor.index + 1) end.next → IsOver rs end (lba + k)
    over-on end e next = record {
      within = omega (arith, there.0);
      next = rw e next;
      before = λ i lt. elim (cases_lt i cursor.index) [
        | inl before ↦ omega (arith, at.before i before)
        | inr same ↦ let e' : i ≡ cursor.index = omega arith in
            omega (arith, over-end, ap (end_at rs) e')
      ];
      after = λ i ge lt. omega (arith, over-rest i (omega arith) lt, t.filled i lt);
    }

-- no run has the address
gap-start : (rs : List Run) (index lba capacity : ℕ) (next : Option Run) → IsNext rs index next
    → run_over next lba ≡ None → lba < capacity → lba < end_of_gap next capacity
gap-start rs index lba capacity None n e lt = lt
gap-start rs index lba capacity (Some r) n e lt =
    leb-false r.start lba (dropped (nat_le r.start lba) r e)

gap-after : (rs : List Run) (capacity index : ℕ) (next : Option Run) → IsRunTable capacity rs
    → IsNext rs index next → AreFrom rs index (end_of_gap next capacity)
gap-after rs capacity index None t n i ge lt = absurd (omega arith)
gap-after rs capacity index (Some r) t n i ge lt =
    let start = start_of-read rs index r n.0 (sym n.1) in
    elim (cases_lt index i) [
      | inl behind ↦ omega (
        arith,
        start,
        t.filled index n.0,
        apart-order rs 0 capacity index i (apart t) behind lt,
      )
      | inr up ↦ let e : i ≡ index = omega arith in omega (arith, start, ap (start_of rs) e)
    ]

gap-within : (rs : List Run) (capacity index : ℕ) (next : Option Run) → IsRunTable capacity rs
    → IsNext rs index next → end_of_gap next capacity ≤ capacity
gap-within rs capacity index None t n = omega arith
gap-within rs capacity index (Some r) t n =
    let start = start_of-read rs index r n.0 (sym n.1) in
    omega (arith, start, t.filled index n.0, ends-within rs 0 capacity index (apart t) n.0)

gap-stop : (next : List ℕ) (rs : List Run) (bs : List (List ℕ)) (capacity index lba k : ℕ)
    (o : Option Run) → IsRunTable capacity rs → IsNext rs index o → lba < end_of_gap o capacity
    → k ≡ min MAX_ADDRESSES (end_of_gap o capacity - lba)
    → k < min MAX_ADDRESSES (capacity - lba)
    → status_at (contents_of (expanded next rs) bs) (lba + k) ≢ Deallocated
gap-stop next rs bs capacity index lba k None t n low is lt = absurd (omega arith)
gap-stop next rs bs capacity index lba k (Some r) t n low is lt =
    let start = start_of-read rs index r n.0 (sym n.1) in
    let here : lba + k ≡ start_of rs index = omega arith in
    let found = get-inside next rs (mapping_in bs) 0 capacity index (start_of rs index) (apart t)
    n.0 (omega arith) (t.filled index n.0) in
    λ same. none_status (kind_at rs index) (sym same
    ∙ ap (status_at (contents_of (expanded next rs) bs)) here
    ∙ ap status_in found.1 ∙ status-seen bs found.0 (kind_at rs index))

module _ (rs : List Run) (capacity lba k : ℕ) (cursor : Cursor) (t : IsRunTable capacity rs)
    (at : IsOver rs cursor lba) (none : run_over cursor.next lba ≡ None)
    (below : lba < capacity) where
  pub gap-low : lba < end_of_gap cursor.next capacity
  gap-low = gap-start rs cursor.index lba capacity cursor.next at.next none below

  behind-gap : AreFrom rs cursor.index (end_of_gap cursor.next capacity)
  behind-gap = gap-after rs capacity cursor.index cursor.next t at.next

  module _ (is : k ≡ min MAX_ADDRESSES (end_of_gap cursor.next capacity - lba)) where
    nowhere : (q : ℕ) → lba ≤ q → q < end_of_gap cursor.next capacity → (i : ℕ) → i < length rs
        → (q < start_of rs i) ⊎ (end_at rs i ≤ q)
    nowhere q le lt i low = elim (cases_lt i cursor.index) [
      | inl before ↦ inr (omega (arith, at.before i before))
      | inr after ↦ inl (omega (arith, behind-gap i after low))
    ]

    pub gap-described : (next : List ℕ) (bs : List (List ℕ))
        → ◌≡◌ {A = StatusDescriptor} (record { lba = lba; count = k; status = Deallocated })
        (descriptor_at (contents_of (expanded next rs) bs) capacity lba)
    gap-described next bs =
        let high = gap-within rs capacity cursor.index cursor.next t at.next in
        described (contents_of (expanded next rs) bs) capacity lba k Deallocated
        (ap status_in (get-outside next rs (mapping_in bs) lba (nowhere lba (omega arith) gap-low)))
        (omega (arith, high))
        (λ i lt. ap status_in (get-outside next rs (mapping_in bs) (lba + i)
        (nowhere (lba + i) (omega arith) (omega (arith, is, lt, gap-low)))))
        (gap-stop next rs bs capacity cursor.index lba k cursor.next t at.next gap-low is)

    pub gap-rest : AreFrom rs cursor.index (lba + k)
    gap-rest i ge lt = omega (arith, behind-gap i ge lt, gap-low, is)

    pub gap-on : IsOver rs cursor (lba + k)
    gap-on = record {
      within = at.within;
      next = at.next;
      before = λ i lt. omega (arith, at.before i lt);
      after = λ i ge lt. omega (arith, gap-rest i ge lt, t.filled i lt);
    }

-- the cursor at the record before an index, which has the address, or at the index
pub cursor-before : (rs : List Run) (capacity index lba : ℕ) (run : Run) → IsRunTable capacity rs
    → IsLowerBound rs index lba → 0 < index → slice_index_or rs (index - 1) run ≡ run
    → lba < end_of run
    → IsOver rs (record { index = index - 1; next = Some run }) lba
cursor-before rs capacity index lba run t p some is lt =
    let within = p.within in
    let end = end_at-read rs (index - 1) run (omega arith) (sym is) in
    let start = p.before (index - 1) (omega arith) in
    record {
      within = omega arith;
      next = (omega arith, is);
      before = λ i low. omega (
        arith,
        start,
        apart-order rs 0 capacity i
            (index - 1) (apart t) low (omega arith),
      );
      after = λ i ge low. elim (cases_lt i index) [
        | inl here ↦ let e : i ≡ index - 1 = omega arith in omega (arith, lt, end, ap (end_at rs) e)
        | inr behind ↦ omega (arith, p.after i behind low, t.filled i low)
      ];
    }

pub cursor-at : (rs : List Run) (capacity index lba : ℕ) (cursor : Cursor) → IsRunTable capacity rs
    → IsLowerBound rs index lba → (0 < index → end_at rs (index - 1) ≤ lba) → cursor.index ≡ index
    → IsNext rs index cursor.next
    → IsOver rs cursor lba
cursor-at rs capacity index lba cursor t p before is next = record {
  within = rw is p.within;
  next = rw is next;
  before = λ i low. elim (cases_lt (i + 1) index) [
    | inl behind ↦
        let start = p.before (index - 1) (omega arith) in
        let within = p.within in
        omega (
          arith,
          start,
          apart-order rs 0 capacity i (index - 1) (apart t) (omega arith)
              (omega arith),
        )
    | inr last ↦ let e : i ≡ index - 1 = omega (arith, is) in
        omega (arith, before (omega (arith, is)), ap (end_at rs) e)
  ];
  after = λ i ge low. omega (arith, p.after i (omega (arith, is)) low, t.filled i low);
}

-- the table is sorted
pub run_table-sorted : (capacity : ℕ) (rs : List Run) → IsRunTable capacity rs → IsSorted rs
run_table-sorted capacity rs t = maximal-sorted rs 0 (capacity + 1) t.maximal

-- visits that are counted in turn
pub visited-trade : (t u v : Table) (a b c : ℕ) → visited v b ≡ visited u c
    → visited u a ≡ visited t b → visited v a ≡ visited t c
visited-trade t u v a b c e f =
    let on : a + b ≡ b + a = omega arith in
    let on' : c + a ≡ a + c = omega arith in
    let on'' : b + c ≡ c + b = omega arith in
    visited-less (visited v a) t b (c + b) c
    (visited-more v a b ∙ ap (visited v) on ∙ sym (visited-more v b a) ∙ ap (λ x. visited x a) e
    ∙ visited-more u c a ∙ ap (visited u) on'
    ∙ sym (visited-more u a c) ∙ ap (λ x. visited x c) f ∙ visited-more t b c
    ∙ ap (visited t) on'') refl

pub ahead-is : (rs : List Run) (i : ℕ) (o : Option Run) → IsNext rs i o → i ≤ length rs
    → i + ahead o ≡ min (i + 1) (length rs)
ahead-is rs i None n le = omega arith
ahead-is rs i (Some r) n le = omega (arith, n.0)

-- the table of a disk
chained-filled : (next : List ℕ) (rs : List Run) (i : ℕ) → AreChained next rs → i < length rs
    → start_of rs i < end_at rs i
chained-filled next [] i h lt = absurd (omega arith)
chained-filled next (x ∷ rs) zero h lt = omega (arith, h.0.not_empty)
chained-filled next (x ∷ rs) (suc i) h lt = chained-filled next rs i h.1 (omega arith)

short-by : (rs : List Run) (i : ℕ) → i < length rs → end_at rs i ≤ start_of rs i + blocks_of rs
short-by [] i lt = absurd (omega arith)
short-by (x ∷ rs) zero lt = omega (arith, sum_by-cons (λ (r : Run). r.count) x rs)
short-by (x ∷ rs) (suc i) lt = omega (
  arith,
  sum_by-cons (λ (r : Run). r.count) x rs,
  short-by rs i (omega arith),
)

maximal-within : (rs : List Run) (low bound : Bound) (capacity : ℕ) → AreMaximalIn low bound rs
    → ((kind : Kind) → low kind ≤ capacity + 1)
    → ((i : ℕ) → i < length rs → end_at rs i ≤ capacity)
    → AreMaximalIn low (any_from (capacity + 1)) rs
maximal-within [] low bound capacity h le ends = le
maximal-within (x ∷ rs) low bound capacity h le ends = (
  h.0,
  h.1,
  maximal-within rs (behind x) bound capacity h.2
      (λ kind. omega (arith, ends 0 (omega arith), behind-high x kind))
      (λ i lt. ends (suc i) (omega arith)),
)

pub run_table-of : (capacity : ℕ) (rs : List Run) (slots : Slots) (room : ℕ) → AreRuns rs slots room
    → IsWellFormed capacity (chained_contents rs slots) → room ≤ max_slots → capacity ≤ max_capacity
    → IsRunTable capacity rs
run_table-of capacity rs slots room h whole small fits =
    let m = chained_contents rs slots in
    let filled : (i : ℕ) → i < length rs → start_of rs i < end_at rs i =
    λ i lt. chained-filled slots.next rs i h.chained lt in
    let ends : (i : ℕ) → i < length rs → end_at rs i ≤ capacity = λ i lt.
    let some = filled i lt in
    let mapped = contains-inside slots.next rs (mapping_in slots.blocks) 0 max_capacity i
    (end_at rs i - 1) (apart-maximal rs 0 max_capacity (omega arith) h.maximal) lt (omega arith)
    (omega arith) in
    let below = below-some (get m (end_at rs i - 1)) (end_at rs i - 1) capacity
    (λ b e. (whole.each (end_at rs i - 1) b e).0) mapped in
    omega arith in
    record {
      maximal = maximal-within rs (any_from 0) (any_from (max_capacity + 1)) capacity h.maximal
          (λ kind. omega arith) ends;
      filled = filled;
      short = λ i lt. omega (arith, short-by rs i lt, blocks-fit rs slots room h);
      table_size = omega (arith, runs-fit rs slots room h);
      capacity_fits = fits;
    }

-- visits after probes and visits
pub visits-joined : (s t u : Table) → t ≡ visited (probed s (t.probes - s.probes))
    (t.total - s.total) → u ≡ visited t (u.total - t.total) → s.total ≤ t.total → t.total ≤ u.total
    → u ≡ visited (probed s (u.probes - s.probes)) (u.total - s.total)
visits-joined s t u e f le le' =
    let probes : u.probes ≡ t.probes = ap (λ (x : Table). x.probes) f in
    let all : t.total - s.total + (u.total - t.total) ≡ u.total - s.total = omega arith in
    let p = probed s (t.probes - s.probes) in
    f ∙ ap (λ x. visited x (u.total - t.total)) e
    ∙ visited-more p (t.total - s.total) (u.total - t.total) ∙ ap (visited p) all
    ∙ ap (λ k. visited (probed s (k - s.probes)) (u.total - s.total)) (sym probes)
