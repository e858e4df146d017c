-- The descriptors of extents, and the visits that they take.
use Rattle.std.proofs.Common.{◌≡◌, ◌≢◌, ℕ, ◌+◌, ◌-◌, ◌<◌, ◌≤◌, zero, suc, List, [], ◌∷◌, length}
use Rattle.std.proofs.Common.{arith, refl, sym, ap, ◌∙◌, ◌⊎◌, inl, get_or, drop, length-append}
use Rattle.std.proofs.Common.{inr, Option, Some, None, cond, true, true≢false}
use Rattle.std.proofs.lemmas.Bool.{cases_lt, leb-true, leb-false}
use Rattle.std.specs.FinMap.{get}
use Rattle.std.specs.Prelude.{slice_index_or, min, nat_le, is_some}
use Rattle.sg_store.specs.Disk.{Mapping, IsWellFormed, max_capacity, max_pool, used_among, used_at}
use Rattle.sg_store.specs.LbaStatus.{descriptor_at, status_at, status_in}
use Rattle.sg_table.specs.Records.{start_of, IsLowerBound, IsNext, ahead, end_of_gap, same_kind}
use Rattle.sg_pool.specs.MappedRecords.{mapping_in, contents_of, status_of_kind}
use Rattle.sg_pool.specs.Slots.{UnlinkedSlots}
use Rattle.sg_table.specs.Table.{Table, visited, probed}
use Rattle.sg_table.specs.declared.cursor.Cursor.{Cursor}
use Rattle.sg_wire.specs.declared.lba_status.ProvisioningStatus.TheVariants.{Deallocated}
use Rattle.sg_wire.specs.declared.lba_status.StatusDescriptor.{StatusDescriptor}
use Rattle.sg_store.specs.declared.lba_status.TheConstants.{MAX_ADDRESSES}
use Rattle.sg_table.specs.declared.run.Kind.{Kind}
use Rattle.sg_table.specs.declared.run.Kind.TheVariants.{Data as DataRun, Anchored as AnchoredRun}
use Rattle.sg_table.specs.declared.run.Run.{Run}
use Rattle.sg_extent_map.specs.Gathering.{end_at}
use Rattle.sg_extent_map.specs.Extents.{singles, singles_of, AreExtents}
use Rattle.sg_pool.specs.Rising.{end_of, AreApart}
use Rattle.sg_extent_map.specs.Status.{IsExtentTable, IsOver, run_over, of_kind, AreOfKind}
use Rattle.sg_store.proofs.DescriptorLemmas.{described}
use Rattle.sg_store.proofs.DiskLemmas.{used_among-none, used_among-more}
use Rattle.sg_store.proofs.WellFormedLemmas.{below-some}
use Rattle.sg_table.proofs.RecordLemmas.{start_of-read, picked, dropped, own_kind}
use Rattle.sg_pool.proofs.MappedLemmas.{status-seen}
use Rattle.sg_table.proofs.TableLemmas.{visited-more, visited-less}
use Rattle.sg_extent_map.proofs.AddressLemmas.{kind_at, get-inside, get-outside, end_at-read}
use Rattle.sg_extent_map.proofs.AddressLemmas.{contains-inside, apart-order, ends-within}
use Rattle.sg_extent_map.proofs.AddressLemmas.{apart-filled}
use Rattle.sg_extent_map.proofs.AddressLemmas.{kind_at-read}
use Rattle.sg_extent_map.proofs.DraftLemmas.{drop-run}
use Rattle.sg_extent_map.proofs.OverlapLemmas.{mapped-overlap}
use Rattle.sg_extent_map.proofs.SinglesLemmas.{length-from, singles-more}

-- the status that is seen
status_kind : (bs : List (List ℕ)) (slot : ℕ) (j k : Kind)
    → status_in (Some (mapping_in bs slot j)) ≡ status_of_kind k → j ≡ k
status_kind bs slot DataRun DataRun e = refl
status_kind bs slot DataRun AnchoredRun e = let wrong = e in cc
status_kind bs slot AnchoredRun DataRun e = let wrong = e in cc
status_kind bs slot AnchoredRun AnchoredRun e = refl

none_status : (kind : Kind) → Deallocated ≡ status_of_kind kind → ⊥
none_status DataRun e = let wrong = e in cc
none_status AnchoredRun e = let wrong = e in cc

-- the extent of an address, from the cursor
over : (rs : List Run) (next : Option Run) (p lba : ℕ) (run : Run) → IsNext rs p next
    → run_over next lba ≡ Some run → (p < length rs) × (slice_index_or rs p run ≡ run)
    × (run.start ≤ lba)
over rs None p lba run n e = let wrong = e in cc
over rs (Some r) p lba run n e =
    let both = picked (nat_le r.start lba) r run e in (
      n.0,
      ap (λ y. slice_index_or rs p y) (sym both.1) ∙ n.1
          ∙ both.1,
      omega (arith, leb-true r.start lba both.0, ap (λ (y : Run). y.start) both.1),
    )

-- an extent of the address
module _ (rs : List Run) (capacity lba : ℕ) (cursor : Cursor) (t : IsExtentTable capacity rs)
    (at : IsOver rs cursor lba) (run : Run) (is : run_over cursor.next lba ≡ Some run) where
  there : (cursor.index < length rs) × (slice_index_or rs cursor.index run ≡ run)
      × (run.start ≤ lba)
  there = over rs cursor.next cursor.index lba run at.next is

  pub over-start : run.start ≡ start_of rs cursor.index
  over-start = start_of-read rs cursor.index run there.0 (sym there.1)

  pub over-end : end_of run ≡ end_at rs cursor.index
  over-end = end_at-read rs cursor.index run there.0 (sym there.1)

  pub over-low : run.start ≤ lba
  over-low = there.2

  pub over-index : cursor.index < length rs
  over-index = there.0

  pub over-high : lba < end_of run
  over-high = omega (arith, over-end, at.after cursor.index (omega arith) there.0)

  pub over-within : end_of run ≤ capacity
  over-within = omega (
    arith,
    over-end,
    ends-within rs 0 capacity cursor.index t.apart there.0,
  )

  over_kind : kind_at rs cursor.index ≡ run.kind
  over_kind = kind_at-read rs cursor.index run there.0 (sym there.1)

  -- its addresses have the status of its kind
  pub over-row : AreOfKind rs lba (end_of run) run.kind
  over-row bs q low high =
      let found = get-inside rs (mapping_in bs) 0 capacity cursor.index q t.apart
      there.0 (omega (arith, over-start, over-low)) (omega (arith, over-end)) in
      ap status_in found.1 ∙ status-seen bs found.0 (kind_at rs cursor.index)
      ∙ ap status_of_kind over_kind

  pub over-on : (end : Cursor) → end.index ≡ cursor.index + 1
      → IsNext rs (cursor.index + 1) end.next → IsOver rs end (end_of run)
  over-on end e next = record {
    within = omega (arith, there.0);
    next = rw e next;
    before = λ i lt. elim (cases_lt i cursor.index) [
      | inl before ↦ omega (arith, at.before i before, over-high)
      | inr same ↦ let e' : i ≡ cursor.index = omega arith in
          omega (arith, over-end, ap (end_at rs) e')
    ];
    after = λ i ge lt. omega (
      arith,
      over-end,
      apart-order rs 0 capacity cursor.index i t.apart (omega arith) lt,
      apart-filled rs 0 capacity i t.apart lt,
    );
  }

  -- the addresses from its index on, and from the next index on
  pub over-count : length (singles (drop cursor.index rs))
      ≡ run.count + length (singles (drop (cursor.index + 1) rs))
  over-count =
      let more = drop-run rs cursor.index run there.0 in
      let len = ap (λ xs. length (singles xs)) more
      ∙ ap length (singles-more (get_or rs cursor.index run) (drop (cursor.index + 1) rs))
      ∙ length-append (singles_of (get_or rs cursor.index run)) (singles (drop (cursor.index + 1) rs)) in
      let one = length-from (get_or rs cursor.index run).start (get_or rs cursor.index run).first
      (get_or rs cursor.index run).count (get_or rs cursor.index run).kind in
      let count = ap (λ (r : Run). r.count) there.1 in
      omega (arith, len, one, count)

-- the extents from an index on have no more addresses than all
pub drop-count : (rs : List Run) (i : ℕ) → length (singles (drop i rs)) ≤ length (singles rs)
drop-count rs zero = omega arith
drop-count [] (suc i) = omega arith
drop-count (x ∷ rs) (suc i) =
    let len = ap length (singles-more x rs) ∙ length-append (singles_of x) (singles rs) in
    omega (arith, drop-count rs i)

-- no extent has the address
module _ (rs : List Run) (capacity lba : ℕ) (cursor : Cursor) (t : IsExtentTable capacity rs)
    (at : IsOver rs cursor lba) (none : run_over cursor.next lba ≡ None) where
  nothing : (i : ℕ) → i < length rs → (lba < start_of rs i) ⊎ (end_at rs i ≤ lba)
  nothing i low = elim (cases_lt i cursor.index) [
    | inl before ↦ inr (at.before i before)
    | inr after ↦ inl (past cursor.next at.next none after)
  ]
    where
      past : (o : Option Run) → IsNext rs cursor.index o → run_over o lba ≡ None → cursor.index ≤ i
          → lba < start_of rs i
      past None n e after = absurd (omega arith)
      past (Some r) n e after =
          let start = start_of-read rs cursor.index r n.0 (sym n.1) in
          let up = leb-false r.start lba (dropped (nat_le r.start lba) r e) in
          elim (cases_lt cursor.index i) [
            | inl behind ↦ omega (
              arith,
              start,
              up,
              apart-filled rs 0 capacity cursor.index t.apart n.0,
              apart-order rs 0 capacity cursor.index i t.apart behind low,
            )
            | inr same ↦ let e : i ≡ cursor.index = omega arith in
                omega (arith, start, up, ap (start_of rs) e)
          ]

  pub nothing-there : (bs : List (List ℕ)) → status_at (contents_of (singles rs) bs) lba ≡ Deallocated
  nothing-there bs = ap status_in (get-outside rs (mapping_in bs) lba nothing)

-- the row of a kind ends at an address
pub row-ends : (rs : List Run) (capacity lba : ℕ) (cursor : Cursor) (kind : Kind) (bs : List (List ℕ))
    → IsExtentTable capacity rs → IsOver rs cursor lba
    → of_kind kind (run_over cursor.next lba) ≡ None
    → status_at (contents_of (singles rs) bs) lba ≢ status_of_kind kind
row-ends rs capacity lba cursor kind bs t at none same = ends (run_over cursor.next lba) refl none
  where
    ends : (o : Option Run) → run_over cursor.next lba ≡ o → of_kind kind o ≡ None → ⊥
    ends None is e = none_status kind (sym (nothing-there rs capacity lba cursor t at is bs) ∙ same)
    ends (Some r) is e =
        let off = dropped (same_kind r.kind kind) r e in
        let row = over-row rs capacity lba cursor t at r is bs lba (omega arith)
        (over-high rs capacity lba cursor t at r is) in
        true≢false (sym (ap (λ k. same_kind k kind) (kinds r.kind kind (sym row ∙ same)) ∙ own_kind kind)
        ∙ off)
      where
        kinds : (j k : Kind) → status_of_kind j ≡ status_of_kind k → j ≡ k
        kinds DataRun DataRun e = refl
        kinds DataRun AnchoredRun e = let wrong = e in cc
        kinds AnchoredRun DataRun e = let wrong = e in cc
        kinds AnchoredRun AnchoredRun e = refl

-- addresses that have the status of a kind are used
used-status : (o : Option Mapping) (kind : Kind) → status_in o ≡ status_of_kind kind
    → is_some o ≡ true
used-status None kind e = absurd (none_status kind e)
used-status (Some m) kind e = refl

pub row-used : (rs : List Run) (lba n : ℕ) (kind : Kind) (bs : List (List ℕ))
    → AreOfKind rs lba (lba + n) kind → used_among (contents_of (singles rs) bs) lba n ≡ n
row-used rs lba zero kind bs row = used_among-none (contents_of (singles rs) bs) lba
row-used rs lba (suc n) kind bs row =
    let e : suc n ≡ n + 1 = omega arith in
    let m = contents_of (singles rs) bs in
    let rest = row-used rs lba n kind bs (λ cs q low high. row cs q low (omega arith)) in
    let more = used_among-more m lba n in
    let here = row bs (lba + n) (omega arith) (omega arith) in
    let one : used_at m (lba + n) ≡ 1 = ap (λ b. cond b 1 0) (used-status (get m (lba + n)) kind here) in
    rw e (omega arith)

-- the descriptor of a row
pub row-described : (rs : List Run) (capacity lba n : ℕ) (kind : Kind) (bs : List (List ℕ))
    → 0 < n → lba + n ≤ capacity → n ≤ max_pool → AreOfKind rs lba (lba + n) kind
    → status_at (contents_of (singles rs) bs) (lba + n) ≢ status_of_kind kind
    → ◌≡◌ {A = StatusDescriptor} (record { lba = lba; count = n; status = status_of_kind kind })
    (descriptor_at (contents_of (singles rs) bs) capacity lba)
row-described rs capacity lba n kind bs some within short row stop =
    described (contents_of (singles rs) bs) capacity lba n (status_of_kind kind)
    (row bs lba (omega arith) (omega arith)) (omega arith)
    (λ i lt. row bs (lba + i) (omega arith) (omega arith)) (λ _. stop)

-- ---- A gap

gap-start : (rs : List Run) (index lba capacity : ℕ) (next : Option Run) → IsNext rs index next
    → run_over next lba ≡ None → lba < capacity → lba < end_of_gap next capacity
gap-start rs index lba capacity None n e lt = lt
gap-start rs index lba capacity (Some r) n e lt =
    leb-false r.start lba (dropped (nat_le r.start lba) r e)

-- each extent from an index on begins at an address or past it
abbrev AreFrom : List Run → (from lba : ℕ) → Type 0
AreFrom records from lba = (i : ℕ) → from ≤ i → i < length records → lba ≤ start_of records i

gap-after : (rs : List Run) (capacity index : ℕ) (next : Option Run) → IsExtentTable capacity rs
    → IsNext rs index next → AreFrom rs index (end_of_gap next capacity)
gap-after rs capacity index None t n i ge lt = absurd (omega arith)
gap-after rs capacity index (Some r) t n i ge lt =
    let start = start_of-read rs index r n.0 (sym n.1) in
    elim (cases_lt index i) [
      | inl behind ↦ omega (
        arith,
        start,
        apart-filled rs 0 capacity index t.apart n.0,
        apart-order rs 0 capacity index i t.apart behind lt,
      )
      | inr up ↦ let e : i ≡ index = omega arith in omega (arith, start, ap (start_of rs) e)
    ]

gap-within : (rs : List Run) (capacity index : ℕ) (next : Option Run) → IsExtentTable capacity rs
    → IsNext rs index next → end_of_gap next capacity ≤ capacity
gap-within rs capacity index None t n = omega arith
gap-within rs capacity index (Some r) t n =
    let start = start_of-read rs index r n.0 (sym n.1) in
    omega (
      arith,
      start,
      apart-filled rs 0 capacity index t.apart n.0,
      ends-within rs 0 capacity index t.apart n.0,
    )

gap-stop : (rs : List Run) (bs : List (List ℕ)) (capacity index lba k : ℕ)
    (o : Option Run) → IsExtentTable capacity rs → IsNext rs index o → lba < end_of_gap o capacity
    → k ≡ min MAX_ADDRESSES (end_of_gap o capacity - lba)
    → k < min MAX_ADDRESSES (capacity - lba)
    → status_at (contents_of (singles rs) bs) (lba + k) ≢ Deallocated
gap-stop rs bs capacity index lba k None t n low is lt = absurd (omega arith)
gap-stop rs bs capacity index lba k (Some r) t n low is lt =
    let start = start_of-read rs index r n.0 (sym n.1) in
    let here : lba + k ≡ start_of rs index = omega arith in
    let found = get-inside rs (mapping_in bs) 0 capacity index (start_of rs index) t.apart
    n.0 (omega arith) (apart-filled rs 0 capacity index t.apart n.0) in
    λ same. none_status (kind_at rs index) (sym same
    ∙ ap (status_at (contents_of (singles rs) bs)) here
    ∙ ap status_in found.1 ∙ status-seen bs found.0 (kind_at rs index))

module _ (rs : List Run) (capacity lba k : ℕ) (cursor : Cursor) (t : IsExtentTable capacity rs)
    (at : IsOver rs cursor lba) (none : run_over cursor.next lba ≡ None)
    (below : lba < capacity) where
  pub gap-low : lba < end_of_gap cursor.next capacity
  gap-low = gap-start rs cursor.index lba capacity cursor.next at.next none below

  behind-gap : AreFrom rs cursor.index (end_of_gap cursor.next capacity)
  behind-gap = gap-after rs capacity cursor.index cursor.next t at.next

  module _ (is : k ≡ min MAX_ADDRESSES (end_of_gap cursor.next capacity - lba)) where
    nowhere : (q : ℕ) → lba ≤ q → q < end_of_gap cursor.next capacity → (i : ℕ) → i < length rs
        → (q < start_of rs i) ⊎ (end_at rs i ≤ q)
    nowhere q le lt i low = elim (cases_lt i cursor.index) [
      | inl before ↦ inr (omega (arith, at.before i before))
      | inr after ↦ inl (omega (arith, behind-gap i after low))
    ]

    pub gap-described : (bs : List (List ℕ))
        → ◌≡◌ {A = StatusDescriptor} (record { lba = lba; count = k; status = Deallocated })
        (descriptor_at (contents_of (singles rs) bs) capacity lba)
    gap-described bs =
        let high = gap-within rs capacity cursor.index cursor.next t at.next in
        described (contents_of (singles rs) bs) capacity lba k Deallocated
        (ap status_in (get-outside rs (mapping_in bs) lba (nowhere lba (omega arith) gap-low)))
        (omega (arith, high))
        (λ i lt. ap status_in (get-outside rs (mapping_in bs) (lba + i)
        (nowhere (lba + i) (omega arith) (omega (arith, is, lt, gap-low)))))
        (gap-stop rs bs capacity cursor.index lba k cursor.next t at.next gap-low is)

    pub gap-on : IsOver rs cursor (lba + k)
    gap-on = record {
      within = at.within;
      next = at.next;
      before = λ i lt. omega (arith, at.before i lt);
      after = λ i ge lt. omega (
        arith,
        behind-gap i ge lt,
        gap-low,
        is,
        apart-filled rs 0 capacity i t.apart lt,
      );
    }

-- ---- The cursor of an address

-- the cursor at the record before an index, which has the address, or at the index
pub cursor-before : (rs : List Run) (capacity index lba : ℕ) (run : Run) → IsExtentTable capacity rs
    → IsLowerBound rs index lba → 0 < index → slice_index_or rs (index - 1) run ≡ run
    → lba < end_of run
    → IsOver rs (record { index = index - 1; next = Some run }) lba
cursor-before rs capacity index lba run t p some is lt =
    let within = p.within in
    let end = end_at-read rs (index - 1) run (omega arith) (sym is) in
    let start = p.before (index - 1) (omega arith) in
    record {
      within = omega arith;
      next = (omega arith, is);
      before = λ i low. omega (
        arith,
        start,
        apart-order rs 0 capacity i
            (index - 1) t.apart low (omega arith),
      );
      after = λ i ge low. elim (cases_lt i index) [
        | inl here ↦ let e : i ≡ index - 1 = omega arith in omega (arith, lt, end, ap (end_at rs) e)
        | inr behind ↦ omega (arith, p.after i behind low, apart-filled rs 0 capacity i t.apart low)
      ];
    }

pub cursor-at : (rs : List Run) (capacity index lba : ℕ) (cursor : Cursor) → IsExtentTable capacity rs
    → IsLowerBound rs index lba → (0 < index → end_at rs (index - 1) ≤ lba) → cursor.index ≡ index
    → IsNext rs index cursor.next
    → IsOver rs cursor lba
cursor-at rs capacity index lba cursor t p before is next = record {
  within = rw is p.within;
  next = rw is next;
  before = λ i low. elim (cases_lt (i + 1) index) [
    | inl behind ↦
        let start = p.before (index - 1) (omega arith) in
        let within = p.within in
        omega (
          arith,
          start,
          apart-order rs 0 capacity i (index - 1) t.apart (omega arith)
              (omega arith),
        )
    | inr last ↦ let e : i ≡ index - 1 = omega (arith, is) in
        omega (arith, before (omega (arith, is)), ap (end_at rs) e)
  ];
  after = λ i ge low. omega (
    arith,
    p.after i (omega (arith, is)) low,
    apart-filled rs 0 capacity i t.apart low,
  );
}

-- visits that are counted in turn
pub visited-trade : (t u v : Table) (a b c : ℕ) → visited v b ≡ visited u c
    → visited u a ≡ visited t b → visited v a ≡ visited t c
visited-trade t u v a b c e f =
    let on : a + b ≡ b + a = omega arith in
    let on' : c + a ≡ a + c = omega arith in
    let on'' : b + c ≡ c + b = omega arith in
    visited-less (visited v a) t b (c + b) c
    (visited-more v a b ∙ ap (visited v) on ∙ sym (visited-more v b a) ∙ ap (λ x. visited x a) e
    ∙ visited-more u c a ∙ ap (visited u) on'
    ∙ sym (visited-more u a c) ∙ ap (λ x. visited x c) f ∙ visited-more t b c
    ∙ ap (visited t) on'') refl

pub ahead-is : (rs : List Run) (i : ℕ) (o : Option Run) → IsNext rs i o → i ≤ length rs
    → i + ahead o ≡ min (i + 1) (length rs)
ahead-is rs i None n le = omega arith
ahead-is rs i (Some r) n le = omega (arith, n.0)

-- ---- The table of a disk

apart-within : (rs : List Run) (a b capacity : ℕ) → AreApart a b rs → a ≤ capacity
    → ((i : ℕ) → i < length rs → end_at rs i ≤ capacity) → AreApart a capacity rs
apart-within [] a b capacity h le ends = le
apart-within (x ∷ rs) a b capacity h le ends = (
  h.0,
  h.1,
  apart-within rs (end_of x) b capacity h.2 (ends 0 (omega arith))
      (λ i lt. ends (suc i) (omega arith)),
)

pub extent_table-of : (capacity : ℕ) (rs : List Run) (slots : UnlinkedSlots) (room : ℕ)
    → AreExtents rs slots room → IsWellFormed capacity (contents_of (singles rs) slots.blocks)
    → room ≤ max_pool → capacity ≤ max_capacity → IsExtentTable capacity rs
extent_table-of capacity rs slots room h whole small fits =
    let m = contents_of (singles rs) slots.blocks in
    let ends : (i : ℕ) → i < length rs → end_at rs i ≤ capacity = λ i lt.
    let some = apart-filled rs 0 max_capacity i h.apart lt in
    let mapped = contains-inside rs (mapping_in slots.blocks) 0 max_capacity i
    (end_at rs i - 1) h.apart lt (omega arith) (omega arith) in
    let below = below-some (get m (end_at rs i - 1)) (end_at rs i - 1) capacity
    (λ b e. (whole.each (end_at rs i - 1) b e).0) mapped in
    omega arith in
    record {
      apart = apart-within rs 0 max_capacity capacity h.apart (omega arith) ends;
      table_size = omega (arith, h.consistent.count);
      capacity_fits = fits;
    }

-- visits after probes and visits
pub visits-joined : (s t u : Table) → t ≡ visited (probed s (t.probes - s.probes))
    (t.total - s.total) → u ≡ visited t (u.total - t.total) → s.total ≤ t.total → t.total ≤ u.total
    → u ≡ visited (probed s (u.probes - s.probes)) (u.total - s.total)
visits-joined s t u e f le le' =
    let probes : u.probes ≡ t.probes = ap (λ (x : Table). x.probes) f in
    let all : t.total - s.total + (u.total - t.total) ≡ u.total - s.total = omega arith in
    let p = probed s (t.probes - s.probes) in
    f ∙ ap (λ x. visited x (u.total - t.total)) e
    ∙ visited-more p (t.total - s.total) (u.total - t.total) ∙ ap (visited p) all
    ∙ ap (λ k. visited (probed s (k - s.probes)) (u.total - s.total)) (sym probes)

-- ---- The size of a table

apart-length : (rs : List Run) (a b : ℕ) → AreApart a b rs → length rs ≤ length (singles rs)
apart-length [] a b h = omega arith
apart-length (x ∷ rs) a b h =
    let len = ap length (singles-more x rs) ∙ length-append (singles_of x) (singles rs) in
    let one = length-from x.start x.first x.count x.kind in
    omega (arith, apart-length rs (end_of x) b h.2, h.1)

pub records-fit : (capacity : ℕ) (rs : List Run) → IsExtentTable capacity rs → length rs ≤ max_pool
records-fit capacity rs t = omega (arith, apart-length rs 0 capacity t.apart, t.table_size)

-- an extent that was found was visited
pub over-ahead : (o : Option Run) (lba : ℕ) (run : Run) → run_over o lba ≡ Some run → ahead o ≡ 1
over-ahead None lba run e = let wrong = e in cc
over-ahead (Some r) lba run e = refl

-- no address is used if there is no extent
pub used-some : (rs : List Run) (bs : List (List ℕ)) (a b lba n : ℕ) → AreApart a b rs
    → min 1 (used_among (contents_of (singles rs) bs) lba n) ≤ min 1 (length rs)
used-some [] bs a b lba n h =
    let none = mapped-overlap [] (mapping_in bs) a b lba n h in
    omega (arith, none)
used-some (x ∷ rs) bs a b lba n h = omega arith
