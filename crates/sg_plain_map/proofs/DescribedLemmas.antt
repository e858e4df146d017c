-- The descriptors of addresses in a row, by the records of a table.
use Rattle.std.proofs.Common.{◌≡◌, ◌≢◌, ℕ, ◌+◌, ◌-◌, ◌<◌, ◌≤◌, List, []}
use Rattle.std.proofs.Common.{length, get_or, arith, refl, sym, ap, ◌∙◌}
use Rattle.std.proofs.Common.{inl, inr, Option, Some, None}
use Rattle.std.proofs.lemmas.Bool.{cases_lt}
use Rattle.std.specs.Prelude.{min}
use Rattle.std.specs.FinMap.{get}
use Rattle.sg_store.specs.Disk.{IsWellFormed, max_capacity}
use Rattle.sg_pool.specs.Slots.{max_slots}
use Rattle.sg_store.specs.LbaStatus.{descriptor_at, status_at}
use Rattle.sg_table.specs.Records.{start_of, IsSorted, IsLowerBound, IsNext, ahead}
use Rattle.sg_pool.specs.MappedRecords.{contents_of, status_of_kind, IsConsistent}
use Rattle.sg_table.specs.Table.{Table, visited}
use Rattle.sg_plain_map.specs.Editing.{IsAt, VisitsRange}
use Rattle.sg_table.specs.Records.{run_at, end_of_gap}
use Rattle.sg_plain_map.specs.Status.{IsTableOf, AreInRow, of_kind}
use Rattle.sg_wire.specs.declared.lba_status.ProvisioningStatus.TheVariants.{Deallocated}
use Rattle.sg_wire.specs.declared.lba_status.StatusDescriptor.{StatusDescriptor}
use Rattle.sg_store.specs.declared.lba_status.TheConstants.{MAX_ADDRESSES}
use Rattle.sg_table.specs.declared.run.Kind.{Kind}
use Rattle.sg_table.specs.declared.run.Kind.TheVariants.{Data as DataKind, Anchored as AnchoredKind}
use Rattle.sg_table.specs.declared.run.Run.{Run}
use Rattle.sg_table.specs.declared.cursor.Cursor.{Cursor}
use Rattle.sg_pool.proofs.MappedLemmas.{status-mapped, status-unmapped}
use Rattle.sg_table.proofs.RecordLemmas.{start_of-read, at_or_past, no_run, none_at}
use Rattle.sg_plain_map.proofs.RangeLemmas.{contains-start, get_or_any, used_among-indices}
use Rattle.sg_table.proofs.TableLemmas.{ahead-le}
use Rattle.sg_plain_map.proofs.CursorLemmas.{found, missed, of_kind-missed}
use Rattle.sg_store.proofs.DescriptorLemmas.{described}
use Rattle.sg_store.proofs.WellFormedLemmas.{below-some}

pub table-of : (capacity : ℕ) (rs : List Run) (bs : List (List ℕ)) (free : List ℕ) (room : ℕ)
    → IsWellFormed capacity (contents_of rs bs) → IsConsistent rs bs free room → room ≤ max_slots
    → capacity ≤ max_capacity
    → IsTableOf capacity rs
table-of capacity rs bs free room whole consistent small fits = record {
  sorted = consistent.sorted;
  within = λ i lt. below-some (get (contents_of rs bs) (start_of rs i)) (start_of rs i) capacity
      (λ b e. (whole.each (start_of rs i) b e).0) (contains-start rs bs i consistent.sorted lt);
  table_size = omega (arith, consistent.count);
  capacity_fits = fits;
}

-- the status of addresses with records
used-status : (kind : Kind) → status_of_kind kind ≢ Deallocated
used-status DataKind e = let wrong = e in cc
used-status AnchoredKind e = let wrong = e in cc

other-status : (kind other : Kind) → status_of_kind other ≡ status_of_kind kind → other ≡ kind
other-status DataKind DataKind e = refl
other-status DataKind AnchoredKind e = let wrong = e in cc
other-status AnchoredKind DataKind e = let wrong = e in cc
other-status AnchoredKind AnchoredKind e = refl

start-status : (rs : List Run) (bs : List (List ℕ)) (i : ℕ) → IsSorted rs → i < length rs
    → status_at (contents_of rs bs) (start_of rs i) ≢ Deallocated
start-status rs bs i rises h e =
    let r : Run = get_or rs i no_run in
    let same : r ≡ get_or rs i r = get_or_any rs i _ r h in
    let at = start_of-read rs i r h same in
    used-status r.kind (sym (status-mapped rs bs i r rises h same)
    ∙ ap (status_at (contents_of rs bs)) at ∙ e)

-- records in a row
module _ (rs : List Run) (bs : List (List ℕ)) (capacity a i j : ℕ) (kind : Kind)
    (t : IsTableOf capacity rs) (row : AreInRow rs i j a kind) (some : i < j) (low : j ≤ length rs)
    (stop : status_at (contents_of rs bs) (a + (j - i)) ≢ status_of_kind kind) where
  row-start : (k : ℕ) → k < j - i → start_of rs (i + k) ≡ a + k
  row-start k lt =
      let there = row (i + k) (omega arith) (omega arith) in
      let start = start_of-read rs (i + k) there.0 (omega arith) (sym there.1) in
      omega (arith, there.2)

  row-status : (k : ℕ) → k < j - i → status_at (contents_of rs bs) (a + k) ≡ status_of_kind kind
  row-status k lt =
      let there = row (i + k) (omega arith) (omega arith) in
      let at : there.0.start ≡ a + k = omega (arith, there.2) in
      ap (status_at (contents_of rs bs)) (sym at)
      ∙ status-mapped rs bs (i + k) there.0 t.sorted (omega arith) (sym there.1)
      ∙ ap status_of_kind there.3

  row-within : j - i ≤ min MAX_ADDRESSES (capacity - a)
  row-within =
      let last = row-start (j - i - 1) (omega arith) in
      let below = t.within (i + (j - i - 1)) (omega arith) in
      omega (arith, t.table_size)

  pub described-row : ◌≡◌ {A = StatusDescriptor}
      (record { lba = a; count = j - i; status = status_of_kind kind })
      (descriptor_at (contents_of rs bs) capacity a)
  described-row =
      let here : a + 0 ≡ a = omega arith in
      described (contents_of rs bs) capacity a (j - i) (status_of_kind kind)
      (rw here at (row-status 0 (omega arith))) row-within row-status (λ _. stop)

-- a row ends before an address of another status
pub row-ends : (rs : List Run) (bs : List (List ℕ)) (end : Cursor) (a : ℕ) (kind : Kind)
    → IsSorted rs → IsAt rs end a → of_kind kind (run_at end.next a) ≡ None
    → status_at (contents_of rs bs) a ≢ status_of_kind kind
row-ends rs bs end a kind rises at none same = ends (run_at end.next a) refl where
  ends : (o : Option Run) → run_at end.next a ≡ o → ⊥
  ends None is =
      let free = status-unmapped rs bs a (none_at rs end.index a rises at.index
      (missed rs end.next end.index a at.next is)) in
      used-status kind (sym same ∙ free)
  ends (Some r) is =
      let here = found rs end.next end.index a r at.next is in
      let status = status-mapped rs bs end.index r rises here.0 (sym here.1) in
      of_kind-missed kind (run_at end.next a) r none is
      (other-status kind r.kind
      (sym status ∙ ap (status_at (contents_of rs bs)) here.2 ∙ same))

-- and has the record that it begins with
pub row-some : (rs : List Run) (cursor end : Cursor) (a : ℕ) (run : Run) → IsSorted rs
    → IsAt rs cursor a → run_at cursor.next a ≡ Some run
    → IsAt rs end (a + (end.index - cursor.index))
    → of_kind run.kind (run_at end.next (a + (end.index - cursor.index))) ≡ None
    → cursor.index < end.index
row-some rs cursor end a run rises at is after none = elim (cases_lt cursor.index end.index) [
  | inl lt ↦ lt
  | inr ge ↦
      let here = found rs cursor.next cursor.index a run at.next is in
      let first : run.start ≡ a + (end.index - cursor.index) = omega (arith, here.2) in
      absurd (row-ends rs [] end (a + (end.index - cursor.index)) run.kind rises after none
      (ap (status_at (contents_of rs [])) (sym first)
      ∙ status-mapped rs [] cursor.index run rises here.0 (sym here.1)))
]

-- a gap
gap-after : (capacity i : ℕ) (rs : List Run) (next : Option Run) → IsTableOf capacity rs
    → IsNext rs i next → (q : ℕ) → i ≤ q → q < length rs → end_of_gap next capacity ≤ start_of rs q
gap-after capacity i rs None t at q le lt = absurd (omega arith)
gap-after capacity i rs (Some r) t at q le lt =
    let here = start_of-read rs i r at.0 (sym at.1) in
    at_or_past rs i q r.start t.sorted (omega arith) le lt

pub gap-low : (capacity a i : ℕ) (rs : List Run) (next : Option Run) → a < capacity
    → IsLowerBound rs i a → IsNext rs i next → a ≤ end_of_gap next capacity
gap-low capacity a i rs None below p at = omega arith
gap-low capacity a i rs (Some r) below p at = let here = start_of-read rs i r at.0 (sym at.1) in
    let up = p.after i (omega arith) at.0 in omega arith

gap-high : (capacity i : ℕ) (rs : List Run) (next : Option Run) → IsTableOf capacity rs
    → IsNext rs i next → end_of_gap next capacity ≤ capacity
gap-high capacity i rs None t at = omega arith
gap-high capacity i rs (Some r) t at = let here = start_of-read rs i r at.0 (sym at.1) in
    let below = t.within i at.0 in omega arith

gap-stop : (capacity a k i : ℕ) (rs : List Run) (bs : List (List ℕ)) (next : Option Run)
    → IsTableOf capacity rs → IsNext rs i next → k ≡
    min MAX_ADDRESSES (end_of_gap next capacity - a) → a ≤ end_of_gap next capacity
    → k < min MAX_ADDRESSES (capacity - a)
    → status_at (contents_of rs bs) (a + k) ≢ Deallocated
gap-stop capacity a k i rs bs None t at is low lt = absurd (omega arith)
gap-stop capacity a k i rs bs (Some r) t at is low lt =
    let here = start_of-read rs i r at.0 (sym at.1) in
    let there : a + k ≡ start_of rs i = omega arith in
    λ free. start-status rs bs i t.sorted at.0 (ap (status_at (contents_of rs bs)) (sym there) ∙ free)

module _ (rs : List Run) (capacity a k i : ℕ) (next : Option Run) (t : IsTableOf capacity rs)
    (below : a < capacity) (p : IsLowerBound rs i a) (at : IsNext rs i next)
    (none : run_at next a ≡ None) (is : k ≡ min MAX_ADDRESSES (end_of_gap next capacity - a)) where
  pub gap-index : IsLowerBound rs i (a + k)
  gap-index = let low = gap-low capacity a i rs next below p at in record {
    within = p.within;
    before = λ q lt. let b = p.before q lt in omega arith;
    after = λ q le lt. let u = gap-after capacity i rs next t at q le lt in omega arith;
  }

  gap-none : (bs : List (List ℕ)) (n : ℕ) → n < k → status_at (contents_of rs bs) (a + n) ≡ Deallocated
  gap-none bs n lt = status-unmapped rs bs (a + n) (λ q h e. elim (cases_lt q i) [
    | inl before ↦ let b = p.before q before in absurd (omega arith)
    | inr after ↦ let u = gap-after capacity i rs next t at q after h in absurd (omega arith)
  ])

  gap-here : (bs : List (List ℕ)) → status_at (contents_of rs bs) a ≡ Deallocated
  gap-here bs = status-unmapped rs bs a (none_at rs i a t.sorted p (missed rs next i a at none))

  pub described-gap : (bs : List (List ℕ))
      → ◌≡◌ {A = StatusDescriptor} (record { lba = a; count = k; status = Deallocated })
      (descriptor_at (contents_of rs bs) capacity a)
  described-gap bs =
      let low = gap-low capacity a i rs next below p at in
      let high = gap-high capacity i rs next t at in
      described (contents_of rs bs) capacity a k Deallocated (gap-here bs) (omega arith) (gap-none bs)
      (gap-stop capacity a k i rs bs next t at is low)

-- the visits to the records of the addresses so far, and to the record after them
pub visits-so_far : (rs : List Run) (bs : List (List ℕ)) (from a k : ℕ) (cursor : Cursor) (next : ℕ)
    (t now : Table) → IsSorted rs → IsLowerBound rs from a → IsAt rs cursor next → next ≡ a + k
    → now ≡ visited t (cursor.index - from + ahead cursor.next) → VisitsRange (contents_of rs bs) a k t now
visits-so_far rs bs from a k cursor next t now rises p at is e =
    let mapped = used_among-indices rs bs from a k cursor.index rises p (rw (sym is) at.index) in
    let total = ap (λ (x : Table). x.total) e in
    let one = ahead-le cursor.next in
    record { least = omega arith; price = omega arith }
