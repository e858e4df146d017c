-- A file that is written afresh.
use Rattle.std.proofs.Common.{◌≡◌, ◌⊎◌, inl, inr, ⊎_elim, ℕ, ◌+◌, ◌*◌, ◌≤◌, ◌<◌, true, ◌&&◌, List, []}
use Rattle.std.proofs.Common.{◌∷◌, ◌++◌, leb, Option, Some, None, refl, sym, ap, ap₂, subst}
use Rattle.std.proofs.Common.{◌∙◌, append_assoc, arith, false}
use Rattle.std.proofs.lemmas.List.{append-nil}
use Rattle.std.proofs.lemmas.Bool.{and_parts, leb-true}
use Rattle.std.specs.Int.{is_power_of_two}
use Rattle.std.specs.List.{flat_map}
use Rattle.std.specs.Prelude.{Result, Ok, Err, IfNone, OnOk, option_and_then, option_map, length}
use Rattle.sg_changes.specs.FirstRecord.{NewDiskFields, first_record, new_disk_kept}
use Rattle.sg_changes.specs.KeptFields.{KeptFields}
use Rattle.sg_changes.specs.Change.{Change, applied_all}
use Rattle.sg_changes.specs.Change.Change.{Pages, Reservations, Faults as FaultTable}
use Rattle.sg_changes.specs.Laws.{Describes, FirstRecordsAreExact, IsSoundDisk, KeptStaysSound}
use Rattle.sg_changes.specs.Laws.{RecordsAreReplayed, RunsMakeTheDisk}
use Rattle.sg_changes.specs.Records.{record_of}
use Rattle.sg_changes.specs.Replay.{replayed}
use Rattle.sg_changes.specs.Snapshot.{kept_below, run_changes}
use Rattle.sg_journal.specs.BatchValue.{BatchValue}
use Rattle.sg_journal.specs.Device.{LeavesOnly}
use Rattle.sg_journal.specs.Journal.{Found, found}
use Rattle.sg_journal.specs.JournalState.{Drafts, HasBatches, has_waiting}
use Rattle.sg_journal.specs.Layout.{body_size, is_sector_length}
use Rattle.sg_journal.specs.declared.journal.Journal.{Journal}
use Rattle.sg_faults.specs.Faults.{Faults}
use Rattle.sg_store.specs.Disk.{Disk, empty_disk}
use Rattle.sg_store.specs.LbaStatus.{descriptor_at, status_at}
use Rattle.sg_target.specs.Armed.{Armed}
use Rattle.sg_target.specs.State.{IsWithinLimits, State}
use Rattle.sg_target.specs.Target.{TargetFields, disk_of}
use Rattle.sg_units.specs.Reservations.{IsConsistent}
use Rattle.sg_units.specs.declared.reservation_state.ReservationState.{ReservationState}
use Rattle.sg_wire.specs.declared.extent.Extent.{Extent}
use Rattle.sg_wire.specs.declared.lba_status.StatusDescriptor.{StatusDescriptor}
use Rattle.sg_kept.specs.Recording.{Adds, HasRoom}
use Rattle.sg_kept.specs.Compaction.{IsDraftOf, IsDrafted, IsNextPart, LeadsOn, StandsFor}
use Rattle.sg_kept.specs.Compaction.{draft_weight, heaviest}
use Rattle.sg_kept.specs.Disk.{IsKept}
use Rattle.sg_kept.specs.Kept.{kept, powered, restored}
use Rattle.sg_kept.specs.Opened.{IsBeforeOr, begun, filed, opened, replayed_all}
use Rattle.sg_kept.specs.Opening.{IsSteady, new_disk_of}
use Rattle.sg_kept.specs.Changes.{persistent}
use Rattle.sg_kept.proofs.AppliedLemmas.{restored-persistent}
use Rattle.sg_kept.proofs.OpenedLemmas.{all-after, all-push, filed-push, opened-is, opened-same, replayed-nil}
use Rattle.sg_kept.proofs.OpenedLemmas.{none-waits, with-last, without-last}
use Rattle.sg_kept.proofs.OpeningLemmas.{filed-one, read-new}
use Rattle.sg_kept.proofs.SteadyLemmas.{steady-new, steady-replayed}

-- ---- More records in the last batch

more-of : RecordsAreReplayed → FirstRecordsAreExact → (first more : List ℕ) (k after : KeptFields)
    (o : Option (NewDiskFields × List ℕ)) → first_record.at first ≡ o
    → option_and_then (λ read. replayed read.1 (new_disk_kept read.0)) o ≡ Some k
    → replayed more k ≡ Some after → begun (first ++ more) ≡ Some after
unfolding begun
more-of law exact first more k after None e b r = absurd cc
more-of law exact first more k after (Some (d, rest)) e b r =
    ap (option_and_then (λ read. replayed read.1 (new_disk_kept read.0)))
    (exact.ignores_rest first d rest more e)
    ∙ law.joined rest more (new_disk_kept d) k b ∙ r

pub begun-more : RecordsAreReplayed → FirstRecordsAreExact → (first more : List ℕ) (k after : KeptFields)
    → begun first ≡ Some k → replayed more k ≡ Some after → begun (first ++ more) ≡ Some after
unfolding begun
begun-more law exact first more k after b r =
    more-of law exact first more k after (first_record.at first) refl b r

one-batch : (o : Option KeptFields) → option_and_then (replayed_all []) o ≡ o
one-batch None = refl
one-batch (Some k) = refl

joined-last : RecordsAreReplayed → (o : Option KeptFields) (b more : List ℕ) (k after : KeptFields)
    → option_and_then (replayed b) o ≡ Some k → replayed more k ≡ Some after
    → option_and_then (replayed (b ++ more)) o ≡ Some after
joined-last law None b more k after e r = absurd cc
joined-last law (Some x) b more k after e r = law.joined b more x k e ∙ r

pub last-more : RecordsAreReplayed → FirstRecordsAreExact → (bs : List (List ℕ)) (b more : List ℕ)
    (k after : KeptFields) → filed (bs ++ b ∷ []) ≡ Some k → replayed more k ≡ Some after
    → filed (bs ++ (b ++ more) ∷ []) ≡ Some after
last-more law exact [] b more k after e r =
    one-batch (begun (b ++ more))
    ∙ begun-more law exact b more k after (sym (one-batch (begun b)) ∙ e) r
last-more law exact (first ∷ bs) b more k after e r =
    all-after bs (b ++ more) (begun first) (all-push bs (b ++ more))
    ∙ joined-last law (option_and_then (replayed_all bs) (begun first)) b more k after
    (sym (all-after bs b (begun first) (all-push bs b)) ∙ e) r

-- ---- The draft

module _ {D : Type 0} (seen : D → List ℕ) (may_leave : D → List ℕ → Type 0) (draft : D → List ℕ) where
  -- records that are added to the batch
  pub drafted-more : RecordsAreReplayed → FirstRecordsAreExact → (journal : Journal D) (b new : BatchValue)
      (left after : KeptFields) → IsDrafted seen may_leave draft journal b left
      → LeadsOn b new left after → IsDrafted seen may_leave draft journal new after
  drafted-more law exact journal b new left after s more = record {
    batches = s.batches;
    drafted = s.drafted;
    drafts = s.drafts;
    leaves = ap (λ (v : BatchValue). filed (s.drafted ++ v.records ∷ [])) more.added
        ∙ last-more law exact s.drafted b.records more.bytes left after s.leaves more.leads;
    sector = ap (λ (v : BatchValue). v.sector) more.added ∙ s.sector;
  }

  -- the batch is written, and empty after it
  pub drafted-next : (old new : Journal D) (b empty : BatchValue) (left : KeptFields)
      (s : IsDrafted seen may_leave draft old b left)
      → Drafts seen may_leave draft new s.batches (s.drafted ++ b.records ∷ [])
      → empty.records ≡ [] → empty.sector ≡ new.sector
      → IsDrafted seen may_leave draft new empty left
  drafted-next old new b empty left s drafts none sector = record {
    batches = s.batches;
    drafted = s.drafted ++ b.records ∷ [];
    drafts = drafts;
    leaves = filed-push (s.drafted ++ b.records ∷ []) empty.records left left s.leaves
        (ap (λ (l : List ℕ). replayed l left) none ∙ replayed-nil left);
    sector = sector;
  }

  -- the first records wait
  pub drafted-first : (journal : Journal D) (b : BatchValue) (bs : List (List ℕ)) (left : KeptFields)
      → Drafts seen may_leave draft journal bs [] → begun b.records ≡ Some left
      → b.sector ≡ journal.sector → IsDrafted seen may_leave draft journal b left
  drafted-first journal b bs left drafts begins sector = record {
    batches = bs;
    drafted = [];
    drafts = drafts;
    leaves = filed-one b.records left begins;
    sector = sector;
  }

-- ---- Records that are added in turn

pub leads-nothing : (b : BatchValue) (k : KeptFields) → LeadsOn b b k k
leads-nothing b k = record {
  bytes = [];
  added = ap (λ (l : List ℕ). record b { records = l }) (sym (append-nil b.records));
  leads = replayed-nil k;
}

pub leads-then : RecordsAreReplayed → (a b c : BatchValue) (k l m : KeptFields) → LeadsOn a b k l
    → LeadsOn b c l m → LeadsOn a c k m
leads-then law a b c k l m first second = record {
  bytes = first.bytes ++ second.bytes;
  added = second.added
      ∙ (ap (λ (v : BatchValue). record v { records = v.records ++ second.bytes }) first.added
      ∙ ap (λ (l : List ℕ). record a { records = l })
      (append_assoc a.records first.bytes second.bytes));
  leads = law.joined first.bytes second.bytes k l first.leads ∙ second.leads;
}

-- ---- A file that stands for a disk

abbrev filed_of : Found → Option KeptFields
filed_of (Ok bs) = filed bs
filed_of (Err fault) = None

module _ {D : Type 0} (seen : D → List ℕ) (may_leave : D → List ℕ → Type 0) where
  -- its batches are the same as before
  pub stands-still : (old new : Journal D) (left : KeptFields) → StandsFor seen may_leave old left
      → (bs ws : List (List ℕ)) → HasBatches seen may_leave new bs ws → has_waiting new ≡ false
      → found (seen new.device) ≡ found (seen old.device) → StandsFor seen may_leave new left
  stands-still old new left s bs ws has not same = record {
    batches = bs;
    stands = subst (HasBatches seen may_leave new bs) (none-waits seen may_leave new bs ws has not) has;
    files = ap filed_of (sym has.found ∙ (same ∙ s.stands.found)) ∙ s.files;
  }

  -- no record waits
  pub stands-alone : (journal : Journal D) (b : BatchValue) (disk : Armed)
      → IsKept seen may_leave journal b disk → b.records ≡ [] → has_waiting journal ≡ false
      → StandsFor seen may_leave journal (kept disk)
  stands-alone journal b disk s none not =
      let nothing = none-waits seen may_leave journal s.batches s.waiting s.stands not in
      let leads = without-last s.waiting b.records s.left (kept disk) none s.waits in
      record {
        batches = s.batches;
        stands = subst (HasBatches seen may_leave journal s.batches) nothing s.stands;
        files = s.files
            ∙ subst (λ (ws : List (List ℕ)). replayed_all ws s.left ≡ Some (kept disk)) nothing leads;
      }

  pub stands-opened : (journal : Journal D) (left : KeptFields) → StandsFor seen may_leave journal left
      → opened (seen journal.device) ≡ Some (restored left)
  stands-opened journal left s = opened-is (seen journal.device) s.batches left s.stands.found s.files

  -- opening finds the disk if none of its records waits
  pub alone-opened : (journal : Journal D) (b : BatchValue) (disk : Armed)
      → IsKept seen may_leave journal b disk → b.records ≡ [] → has_waiting journal ≡ false
      → opened (seen journal.device) ≡ Some (restored (kept disk))
  alone-opened journal b disk s none not =
      stands-opened journal (kept disk) (stands-alone journal b disk s none not)

-- ---- A run

-- the record of the first addresses of a run
pub leads-run : RecordsAreReplayed → RunsMakeTheDisk → (k : KeptFields) (lba : ℕ) (run : StatusDescriptor)
    (extent : Extent) (old new : BatchValue) → IsSoundDisk k.disk → lba < k.disk.capacity
    → run ≡ descriptor_at k.disk.contents k.disk.capacity lba → extent.lba ≡ run.lba
    → extent.count ≤ run.count → Adds old new (run_changes k.disk.contents extent run.status)
    → LeadsOn old new (kept_below k lba) (kept_below k (lba + extent.count))
leads-run replays runs k lba run extent old new sound lt is at most adds =
    let m = k.disk.contents in
    let changes : List Change = run_changes m extent run.status in
    let of_it : Describes m k.disk.capacity run =
    subst (Describes m k.disk.capacity) (sym is) (runs.found m k.disk.capacity lba lt) in
    let here : extent.lba ≡ lba = at ∙ ap (λ (r : StatusDescriptor). r.lba) is in
    let made = runs.one_more k extent run.status sound (omega (arith, of_it.within, at, most))
    (λ i below. subst (λ n. status_at m (n + i) ≡ run.status) (sym at)
    (of_it.status i (omega (arith, below, most)))) in
    record {
      bytes = flat_map record_of changes;
      added = adds.added;
      leads = replays.all changes (kept_below k lba) adds.possible
          ∙ subst (λ n. applied_all (kept_below k n) changes ≡ Some (kept_below k (n + extent.count)))
          here made;
    }

-- all runs
pub all-kept : RunsMakeTheDisk → (k : KeptFields) (n : ℕ) → n ≡ k.disk.capacity → kept_below k n ≡ k
all-kept runs k n e = ap (kept_below k) e ∙ ap (λ (d : Disk). record k { disk = d }) (runs.all k.disk)

pub same-kept : (s t : State) (f h : Faults) → s ≡ t → f ≡ h
    → kept (record { state = s; faults = f }) ≡ kept (record { state = t; faults = h })
same-kept s t f h e same = ap₂ (λ (x : State) (y : Faults). kept (record { state = x; faults = y })) e same

-- a draft that has all runs
pub drafted-whole : {D : Type 0} (seen : D → List ℕ) (may_leave : D → List ℕ → Type 0) (draft : D → List ℕ)
    → RecordsAreReplayed → FirstRecordsAreExact → RunsMakeTheDisk → (journal : Journal D)
    (b new : BatchValue) (k : KeptFields) (from next : ℕ)
    → IsDrafted seen may_leave draft journal b (kept_below k from)
    → LeadsOn b new (kept_below k from) (kept_below k next) → next ≡ k.disk.capacity
    → IsDrafted seen may_leave draft journal new k
drafted-whole seen may_leave draft replays exact runs journal b new k from next s leads end =
    subst (IsDrafted seen may_leave draft journal new) (all-kept runs k next end)
    (drafted-more seen may_leave draft replays exact journal b new (kept_below k from) (kept_below k next) s
    leads)

pub same-disk : (old new : TargetFields) → old.state ≡ new.state → old.faults ≡ new.faults
    → disk_of old ≡ disk_of new
same-disk old new state faults =
    ap₂ (λ (s : State) (f : Faults). record { state = s; faults = f }) state faults

-- ---- The first records

-- a draft that has begun
pub draft-begun : {D : Type 0} (seen : D → List ℕ) (may_leave : D → List ℕ → Type 0) (draft : D → List ℕ)
    (journal : Journal D) (b : BatchValue) (disk : Armed)
    → IsDrafted seen may_leave draft journal b (kept_below (kept disk) 0)
    → draft_weight journal b ≤ heaviest 0 → IsDraftOf seen may_leave draft journal b disk 0
draft-begun seen may_leave draft journal b disk drafted weight = record {
  drafted = drafted;
  within = omega arith;
  room = omega (arith, weight);
  weight = omega (arith, weight);
}

-- all that is kept but the blocks
pub head-begun : RecordsAreReplayed → FirstRecordsAreExact → RunsMakeTheDisk → (disk : Armed)
    (d : NewDiskFields) (a b : BatchValue) → begun a.records ≡ Some (new_disk_kept d)
    → d ≡ new_disk_of (kept disk) → IsSoundDisk disk.state.disk → IsConsistent disk.state.reservations
    → Adds a b (Pages disk.state.modes.saved ∷ Reservations (persistent disk.state.reservations)
    ∷ FaultTable disk.faults ∷ [])
    → begun b.records ≡ Some (kept_below (kept disk) 0)
head-begun replays exact runs disk d a b begins is sound consistent adds =
    let k = kept disk in
    let changes : List Change = Pages disk.state.modes.saved
    ∷ Reservations (persistent disk.state.reservations) ∷ FaultTable disk.faults ∷ [] in
    let paged : KeptFields = record (new_disk_kept (new_disk_of k)) { saved = k.saved } in
    let new : Disk = empty_disk k.disk.capacity k.disk.pool in
    let makes : applied_all (new_disk_kept (new_disk_of k)) changes ≡ Some (record k { disk = new }) =
    ap (λ o. option_and_then (λ (left : KeptFields). applied_all left (FaultTable disk.faults ∷ []))
    (option_map (λ (r : ReservationState). record paged { reservations = r }) o))
    (restored-persistent disk.state.reservations consistent) in
    ap (λ (v : BatchValue). begun v.records) adds.added
    ∙ begun-more replays exact a.records (flat_map record_of changes) (new_disk_kept d)
    (kept_below k 0) begins
    (replays.all changes (new_disk_kept d) adds.possible
    ∙ ap (λ (x : NewDiskFields). applied_all (new_disk_kept x) changes) is ∙ makes
    ∙ ap (λ (x : Disk). Some (record k { disk = x })) (sym (runs.none k.disk sound)))

-- ---- What batches leave of a disk that was made

steady-begun : KeptStaysSound → (first : List ℕ) (k : KeptFields) (o : Option (NewDiskFields × List ℕ))
    → first_record.at first ≡ o
    → option_and_then (λ read. replayed read.1 (new_disk_kept read.0)) o ≡ Some k → IsSteady k
steady-begun law first k None e b = absurd cc
steady-begun law first k (Some (d, rest)) e b =
    steady-replayed law rest (new_disk_kept d) k (steady-new law d (read-new first rest d e)) b

steady-first : KeptStaysSound → (first : List ℕ) (k : KeptFields) → begun first ≡ Some k → IsSteady k
unfolding begun
steady-first law first k b = steady-begun law first k (first_record.at first) refl b

steady-all : KeptStaysSound → (bs : List (List ℕ)) (o : Option KeptFields) (left : KeptFields)
    → ((k : KeptFields) → o ≡ Some k → IsSteady k) → option_and_then (replayed_all bs) o ≡ Some left
    → IsSteady left
steady-all law bs None left each e = absurd cc
steady-all law [] (Some k) left each e = each left e
steady-all law (b ∷ bs) (Some k) left each e =
    steady-all law bs (replayed b k) left
    (λ next r. steady-replayed law b k next (each k refl) r) e

pub steady-filed : KeptStaysSound → (bs : List (List ℕ)) (left : KeptFields) → filed bs ≡ Some left
    → IsSteady left
steady-filed law [] left e = absurd cc
steady-filed law (first ∷ bs) left e =
    steady-all law bs (begun first) left (λ k b. steady-first law first k b) e

-- what is kept of a disk with a file is sound, and a disk could be made of its size
pub steady-kept : {D : Type 0} (seen : D → List ℕ) (may_leave : D → List ℕ → Type 0) → KeptStaysSound
    → (journal : Journal D) (b : BatchValue) (disk : Armed) → IsKept seen may_leave journal b disk
    → IsSteady (kept disk)
steady-kept seen may_leave law journal b disk s =
    let steady = steady-filed law s.batches s.left s.files in
    steady-all law (s.waiting ++ b.records ∷ []) (Some s.left) (kept disk)
    (λ k e. let is : s.left ≡ k = cc in subst IsSteady is steady) s.waits

-- ---- The length of the draft

pub sector-most : (n : ℕ) → is_sector_length n ≡ true → (512 ≤ n) × (n ≤ 65536)
unfolding is_sector_length
sector-most n e =
    let both = and_parts (leb 512 n && leb n 65536) (is_power_of_two n) e in
    let parts = and_parts (leb 512 n) (leb n 65536) both.0 in
    (leb-true 512 n parts.0, leb-true n 65536 parts.1)

body-below : (sector count : ℕ) → 0 < sector → body_size sector count < count + 16 + sector
unfolding body_size
body-below sector count some = omega arith

-- a batch that is written
pub weighed : (sector before count : ℕ) → is_sector_length sector ≡ true
    → 23 * (before + sector + body_size sector count) ≤ 23 * before + 23 * count + 3015024
weighed sector before count valid =
    let most = sector-most sector valid in
    let size = body-below sector count (omega (arith, most.0)) in
    omega (arith, size, most.1)

-- ---- Moments

module _ {D : Type 0} (moment : D → ℕ) (left_since : D → ℕ → List ℕ → Type 0) where
  pub then-leaves : (old mid new : D) (P Q R : List ℕ → Type 0)
      → LeavesOnly moment left_since old mid P → LeavesOnly moment left_since mid new Q
      → ((c : List ℕ) → P c → R c) → ((c : List ℕ) → Q c → R c)
      → LeavesOnly moment left_since old new R
  then-leaves old mid new P Q R first second from_first from_second = record {
    later = omega (arith, first.later, second.later);
    each = λ c left. ⊎_elim (λ was. from_first c (first.each c was)) (from_second c)
        (second.before (moment old) c first.later left);
    before = λ t c le left. ⊎_elim (λ was. ⊎_elim inl (λ had. inr (from_first c had))
        (first.before t c le was)) (λ had. inr (from_second c had))
        (second.before t c (omega (arith, le, first.later)) left);
  }

-- a crash of the exchange
pub exchanged-or : (before : List ℕ) (bs drafted : List (List ℕ)) (left : KeptFields)
    → found before ≡ Ok bs → filed drafted ≡ Some left
    → (file : List ℕ) → (found file ≡ Ok bs) ⊎ (found file ≡ Ok drafted)
    → (found file ≡ found before) ⊎ (opened file ≡ Some (restored left))
exchanged-or before bs drafted left f e file here =
    ⊎_elim (λ was. inl (was ∙ sym f)) (λ now. inr (opened-is file drafted left now e)) here

-- a file that was exchanged for the draft, or was not
pub found-or : (before : List ℕ) (disk : Armed) → restored (kept disk) ≡ powered disk → (file : List ℕ)
    → (found file ≡ found before) ⊎ (opened file ≡ Some (restored (kept disk)))
    → IsBeforeOr before disk file
found-or before disk same file here =
    ⊎_elim (λ was. inl (opened-same file before was)) (λ now. inr (now ∙ ap Some same)) here

pub if-ok : {T E P : Type 0} (r : Result T E) → P → OnOk r P
if-ok (Ok x) p = p
if-ok (Err e) p = tt

pub if-none : {A P Q : Type 0} (o : Option A) → IfNone o P → (P → Q) → IfNone o Q
if-none (Some x) p f = tt
if-none None p f = f p

pub three-ok : {T E P Q R S : Type 0} (r : Result T E) → (P → Q → R → S) → OnOk r P → OnOk r Q → OnOk r R
    → OnOk r S
three-ok (Ok x) f p q s = f p q s
three-ok (Err e) f p q s = s

-- a file that leaves what is kept of a disk, and no record that waits
pub kept-afresh : {D : Type 0} (seen : D → List ℕ) (may_leave : D → List ℕ → Type 0) (journal : Journal D)
    (b : BatchValue) (disk : Armed) → StandsFor seen may_leave journal (kept disk) → b.records ≡ []
    → b.sector ≡ journal.sector → IsWithinLimits disk.state → IsKept seen may_leave journal b disk
kept-afresh seen may_leave journal b disk s none sector limits = record {
  batches = s.batches;
  waiting = [];
  stands = s.stands;
  left = kept disk;
  files = s.files;
  waits = with-last [] b.records (kept disk) (kept disk) none refl;
  sector = sector;
  limits = limits;
}

-- ---- One part of a snapshot, while the file stands for the disk

module _ {D : Type 0} (seen : D → List ℕ) (may_leave : D → List ℕ → Type 0) where
  -- what a crash leaves opens to the disk still
  pub still-or : (journal : Journal D) (left : KeptFields) → StandsFor seen may_leave journal left
      → (file : List ℕ)
      → (found file ≡ found (seen journal.device)) ⊎ (opened file ≡ Some (restored left))
      → opened file ≡ opened (seen journal.device)
  still-or journal left s file here =
      ⊎_elim (λ was. opened-same file (seen journal.device) was)
      (λ now. now ∙ sym (stands-opened seen may_leave journal left s)) here

  pub part-opened : (draft : D → List ℕ) (old new : Journal D) (b : BatchValue) (disk : Armed) (from : ℕ)
      (next : Option ℕ) → StandsFor seen may_leave old (kept disk)
      → IsNextPart seen may_leave draft old new b disk from next
      → opened (seen new.device) ≡ opened (seen old.device)
  part-opened draft old new b disk from (Some next) s part =
      opened-same (seen new.device) (seen old.device) part.same
  part-opened draft old new b disk from None s part =
      stands-opened seen may_leave new (kept disk) part.stands
      ∙ sym (stands-opened seen may_leave old (kept disk) s)

  -- after the last part the disk is as usable as before
  pub part-usable : (draft : D → List ℕ) (old new : Journal D) (b : BatchValue) (disk : Armed) (from : ℕ)
      (next : Option ℕ) → IsWithinLimits disk.state
      → IsNextPart seen may_leave draft old new b disk from next
      → IfNone next (IsKept seen may_leave new b disk × HasRoom b)
  part-usable draft old new b disk from (Some next) limits part = tt
  part-usable draft old new b disk from None limits part =
      let none : length b.records ≡ 0 = ap length part.empty in (
        kept-afresh seen may_leave new b disk part.stands part.empty part.sector limits,
        omega (arith, none),
      )
