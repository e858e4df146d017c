-- Which batches a journal has, and which wait.
use Rattle.std.specs.Prelude.{◌≡◌, ◌≢◌, ◌≤◌, ◌+◌, ℕ, List, [], ◌++◌, length, take, slice_index}
use Rattle.std.specs.Prelude.{Bool, true, false, Ok}
use Rattle.sg_journal.specs.Device.{Holds, Only}
use Rattle.sg_journal.specs.Layout.{counts, is_sector_length}
use Rattle.sg_journal.specs.Journal.{found, IsHead}
use Rattle.sg_journal.specs.declared.journal.Journal.{Journal}
use Rattle.sg_journal.specs.declared.journal.Tail.{Tail}
use Rattle.sg_journal.specs.declared.journal.Tail.TheVariants.{Unmade, Torn, Closed, Waiting}

-- The file is whole batches, and then bytes at which no batch counts.
pub record IsTorn (sector end : ℕ) (file : List ℕ) (bs : List (List ℕ)) : Type 0 where
  pub head : List ℕ
  pub rest : List ℕ
  pub is : file ≡ head ++ rest
  pub whole : IsHead sector head bs
  pub place : end ≡ length head
  pub nothing : counts sector rest ≡ false

-- The file is whole batches, and then a closed gate, whatever follows it.
pub record IsClosed (sector end : ℕ) (file : List ℕ) (bs : List (List ℕ)) : Type 0 where
  pub head : List ℕ
  pub gate : List ℕ
  pub rest : List ℕ
  pub is : file ≡ head ++ (gate ++ rest)
  pub whole : IsHead sector head bs
  pub place : end ≡ length head
  pub size : length gate ≡ sector
  pub closed : slice_index gate 0 ≢ 1

-- Batches wait after the closed gate at `end`. With any open gate in its place, the file would have
-- them too, and then a closed gate at `written`.
pub record IsWaiting (sector end written : ℕ) (file : List ℕ) (bs waiting : List (List ℕ)) : Type 0
  where
    pub closed : IsClosed sector end file bs
    pub behind : end + sector ≤ written
    pub opened : (gate changed : List ℕ) → length gate ≡ sector → slice_index gate 0 ≡ 1
        → Holds file end gate changed → IsClosed sector written changed (bs ++ waiting)

-- The file has no bytes.
pub record IsUnmade (end : ℕ) (file : List ℕ) (bs : List (List ℕ)) : Type 0 where
  pub is : file ≡ []
  pub nothing : bs ≡ []
  pub place : end ≡ 0

abbrev pub HasTail : Tail → (sector end : ℕ) → (file : List ℕ) → (bs waiting : List (List ℕ))
    → Type 0
HasTail Unmade sector end file bs waiting = IsUnmade end file bs × (waiting ≡ [])
HasTail Torn sector end file bs waiting = IsTorn sector end file bs × (waiting ≡ [])
HasTail Closed sector end file bs waiting = IsClosed sector end file bs × (waiting ≡ [])
HasTail (Waiting written) sector end file bs waiting =
    IsWaiting sector end written file bs waiting

-- Each crash leaves the first bytes of the file as they are.
abbrev pub Keeps : (count : ℕ) → (file : List ℕ) → (outcomes : List ℕ → Type 0) → Type 0
Keeps count file outcomes = (c : List ℕ) → outcomes c → take count c ≡ take count file

-- Each crash leaves the file as it is. While batches wait, it leaves these first bytes of it.
abbrev pub IsDurable : Tail → (first : ℕ) → (file : List ℕ) → (outcomes : List ℕ → Type 0) → Type 0
IsDurable (Waiting written) first file outcomes = Keeps first file outcomes
IsDurable _ first file outcomes = Only file outcomes

-- The file was made: it has bytes.
abbrev pub IsMade : {D : Type 0} → Journal D → Type 0
IsMade journal = journal.tail ≢ Unmade

abbrev pub end_of : Tail → (end : ℕ) → ℕ
end_of (Waiting written) end = written
end_of _ end = end

abbrev pub is_waiting : Tail → Bool
is_waiting (Waiting written) = true
is_waiting _ = false

-- Batches wait in the file.
abbrev pub has_waiting : {D : Type 0} → Journal D → Bool
has_waiting journal = is_waiting journal.tail

-- The length of what counts and of what waits, in bytes.
abbrev pub written_end : {D : Type 0} → Journal D → ℕ
written_end journal = end_of journal.tail journal.end

-- The journal's file has these batches, and each crash leaves a file that has them. Other batches wait
-- in the file after them: they do not count before they are committed, and then all of them do.
pub record HasBatches {D : Type 0} (seen : D → List ℕ) (may_leave : D → List ℕ → Type 0)
    (journal : Journal D) (bs waiting : List (List ℕ)) : Type 0 where
  pub valid : is_sector_length journal.sector ≡ true
  pub crash : (c : List ℕ) → may_leave journal.device c → found c ≡ Ok bs
  pub found : found (seen journal.device) ≡ Ok bs
  -- how the file ends, and what a crash leaves of it
  pub tail : HasTail journal.tail journal.sector journal.end (seen journal.device) bs waiting
  pub durable :
      IsDurable journal.tail (journal.end + journal.sector) (seen journal.device)
      (may_leave journal.device)
  pub length : journal.length ≡ length (seen journal.device)

-- The same, whatever waits, and its draft is a first sector and these other batches.
pub record Drafts {D : Type 0} (seen : D → List ℕ) (may_leave : D → List ℕ → Type 0)
    (draft : D → List ℕ) (journal : Journal D) (bs drafted : List (List ℕ)) : Type 0 where
  pub waiting : List (List ℕ)
  pub stands : HasBatches seen may_leave journal bs waiting
  pub drafts : IsHead journal.sector (draft journal.device) drafted
  pub length : journal.drafted ≡ length (draft journal.device)

-- ---- Cited only by private contracts

-- The batches end at a gate that is closed.
abbrev pub EndsAtGate : Tail → Type 0
EndsAtGate Unmade = ⊥
EndsAtGate Torn = ⊥
EndsAtGate Closed = Unit {0}
EndsAtGate (Waiting written) = Unit {0}
