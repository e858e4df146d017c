-- A disk's file that is written afresh.
use Rattle.std.specs.Prelude.{◌≡◌, ◌⊎◌, ◌≤◌, ◌<◌, ℕ, ◌+◌, ◌*◌, ◌^◌, List, [], ◌∷◌, ◌++◌, length}
use Rattle.std.specs.Prelude.{Bool, false, nat_lt, Option, None, Some}
use Rattle.std.specs.FinMap.{len}
use Rattle.sg_changes.specs.KeptFields.{KeptFields}
use Rattle.sg_changes.specs.Replay.{replayed}
use Rattle.sg_changes.specs.Snapshot.{disk_below, kept_below}
use Rattle.sg_journal.specs.BatchValue.{BatchValue}
use Rattle.sg_journal.specs.Journal.{found}
use Rattle.sg_journal.specs.JournalState.{Drafts, HasBatches, has_waiting}
use Rattle.sg_journal.specs.declared.journal.Journal.{Journal}
use Rattle.sg_journal.specs.declared.layout.TheConstants.{MAX_BATCH}
use Rattle.sg_target.specs.Armed.{Armed}
use Rattle.sg_target.specs.State.{IsWithinLimits}
use Rattle.sg_target.specs.Target.{disk_of}
use Rattle.sg_kept.specs.declared.disk.KeptDisk.{KeptDisk}
use Rattle.sg_kept.specs.Disk.{IsAlive}
use Rattle.sg_kept.specs.Kept.{kept}
use Rattle.sg_kept.specs.Opened.{filed}
use Rattle.sg_kept.specs.Recording.{longest_operation, longest_write}

-- The most bytes of a file that was written afresh, by the number of addresses that have a block of the
-- pool: 548 for each of them, and 256 KiB.
abbrev pub longest_snapshot : (used : ℕ) → ℕ
longest_snapshot used = 548 * used + 2 ^ 18

-- The longest file that is not written afresh, in bytes: twice that, and 16 MiB.
abbrev pub longest_uncompacted : (used : ℕ) → ℕ
longest_uncompacted used = 2 * longest_snapshot used + 2 ^ 24

-- The longest file of a disk that is not written afresh.
abbrev pub longest_of : {S D : Type 0} → KeptDisk S D → ℕ
longest_of disk = longest_uncompacted (len disk.target.state.disk.contents)

-- The file is to be written afresh.
abbrev pub is_long : {S D : Type 0} → KeptDisk S D → Bool
is_long disk = nat_lt (longest_of disk) disk.journal.length

-- No record waits, in memory or in a batch of the file that does not count yet.
abbrev pub HasWrittenAll : {S D : Type 0} → KeptDisk S D → Type 0
HasWrittenAll disk = (disk.batch.records ≡ []) × (has_waiting disk.journal ≡ false)

-- What a call leaves. The file is at most twice as long as the longest snapshot of such a disk, and 16 MiB.
-- A disk that leaves it to its owner to write the file afresh may have a longer one. Then nothing waits, so
-- that the owner can begin.
abbrev pub IsKeptShort : {S D : Type 0} → KeptDisk S D → Type 0
IsKeptShort disk =
    (disk.journal.length ≤ longest_of disk) ⊎ ((disk.compacts ≡ false) × HasWrittenAll disk)

-- ---- A file that is written afresh step by step

-- The draft, and after it a batch of the records that wait, leave this. The file has its batches still.
pub record IsDrafted {D : Type 0} (seen : D → List ℕ) (may_leave : D → List ℕ → Type 0)
    (draft : D → List ℕ) (journal : Journal D) (batch : BatchValue) (left : KeptFields) : Type 0 where
  pub batches : List (List ℕ)
  pub drafted : List (List ℕ)
  pub drafts : Drafts seen may_leave draft journal batches drafted
  pub leaves : filed (drafted ++ batch.records ∷ []) ≡ Some left
  pub sector : batch.sector ≡ journal.sector

-- The file is durable, no batch waits in it, and its batches leave this.
pub record StandsFor {D : Type 0} (seen : D → List ℕ) (may_leave : D → List ℕ → Type 0)
    (journal : Journal D) (left : KeptFields) : Type 0 where
  pub batches : List (List ℕ)
  pub stands : HasBatches seen may_leave journal batches []
  pub files : filed batches ≡ Some left

-- What bounds the length of a draft, by the bytes of its batches and of the records that wait. A batch
-- of the draft is longer than its records by less than one part in 23.
abbrev pub draft_weight : {D : Type 0} → Journal D → BatchValue → ℕ
draft_weight journal batch = 23 * journal.drafted + 24 * length batch.records

-- The weight of a draft whose runs have this number of blocks of the pool. A block takes at most 525
-- bytes of records.
abbrev pub heaviest : (used : ℕ) → ℕ
heaviest used = 12600 * used + 2 ^ 21

-- The draft, and after it the batch, leave a disk without its blocks from an address on. The batch has room
-- for the record of the next run.
pub record IsDraftOf {D : Type 0} (seen : D → List ℕ) (may_leave : D → List ℕ → Type 0)
    (draft : D → List ℕ) (journal : Journal D) (batch : BatchValue) (disk : Armed) (next : ℕ) : Type 0
  where
    pub drafted : IsDrafted seen may_leave draft journal batch (kept_below (kept disk) next)
    pub within : next ≤ disk.state.disk.capacity
    pub room : length batch.records + longest_operation ≤ MAX_BATCH
    pub weight : draft_weight journal batch ≤ heaviest (len (disk_below disk.state.disk next).contents)

-- A disk whose file is being written afresh, up to an address. The file stands for the disk still, and the
-- batch belongs to the draft: no other record waits.
pub record IsCompacting {S D : Type 0} (seen : D → List ℕ) (may_leave : D → List ℕ → Type 0)
    (draft : D → List ℕ) (disk : KeptDisk S D) (next : ℕ) : Type 0 where
  pub alive : IsAlive disk
  pub stands : StandsFor seen may_leave disk.journal (kept (disk_of disk.target))
  pub idle : has_waiting disk.journal ≡ false
  pub drafts : IsDraftOf seen may_leave draft disk.journal disk.batch (disk_of disk.target) next
  pub limits : IsWithinLimits disk.target.state
  pub scratch : length disk.scratch.items ≡ longest_write

-- ---- Cited only by private contracts

-- Records were added to a batch. They make `after` of `before`.
pub record LeadsOn (old new : BatchValue) (before after : KeptFields) : Type 0 where
  pub bytes : List ℕ
  pub added : new ≡ record old { records = old.records ++ bytes }
  pub leads : replayed bytes before ≡ Some after

-- The draft has more of a disk. The file is as it was.
pub record GoesOn {D : Type 0} (seen : D → List ℕ) (may_leave : D → List ℕ → Type 0)
    (draft : D → List ℕ) (old new : Journal D) (batch : BatchValue) (disk : Armed) (from next : ℕ) : Type 0
  where
    pub further : from < next
    pub same : found (seen new.device) ≡ found (seen old.device)
    pub waiting : has_waiting new ≡ has_waiting old
    pub drafts : IsDraftOf seen may_leave draft new batch disk next

-- The draft has taken the place of the file, and has all of a disk. No record waits.
pub record IsAfresh {D : Type 0} (seen : D → List ℕ) (may_leave : D → List ℕ → Type 0)
    (journal : Journal D) (batch : BatchValue) (disk : Armed) : Type 0 where
  pub stands : StandsFor seen may_leave journal (kept disk)
  pub empty : batch.records ≡ []
  pub sector : batch.sector ≡ journal.sector
  pub short : journal.end ≤ longest_snapshot (len disk.state.disk.contents)
  -- what counts in the file, and a closed gate
  pub length : journal.length ≤ journal.end + 65536

-- One part of a snapshot is written: the draft goes on from an address, or it has taken the place of the
-- file.
abbrev pub IsNextPart : {D : Type 0} → (seen : D → List ℕ) → (may_leave : D → List ℕ → Type 0)
    → (draft : D → List ℕ) → (old new : Journal D) → BatchValue → Armed → (from : ℕ)
    → (next : Option ℕ) → Type 0
IsNextPart seen may_leave draft old new batch disk from (Some next) =
    GoesOn seen may_leave draft old new batch disk from next
IsNextPart seen may_leave draft old new batch disk from None = IsAfresh seen may_leave new batch disk
