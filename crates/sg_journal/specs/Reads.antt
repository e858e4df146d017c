-- What the reads of a reader leave. Only private contracts cite this file.
use Rattle.std.specs.Prelude.{◌≡◌, ◌≢◌, ◌≤◌, ◌<◌, ℕ, ◌+◌, List, [], ◌∷◌, ◌++◌, length, take, drop}
use Rattle.std.specs.Prelude.{true, false, slice_index}
use Rattle.std.specs.Prelude.{Option, Some, None}
use Rattle.byteorder.specs.Endian.{big_number}
use Rattle.sg_journal.specs.Layout.{body_size, counts, is_sector_length, max_batch}
use Rattle.sg_journal.specs.Journal.{IsHead}
use Rattle.sg_journal.specs.Reading.{IsPlace}
use Rattle.sg_journal.specs.declared.read.Next.{Next}
use Rattle.sg_journal.specs.declared.read.Next.TheVariants.{Batch, End}
use Rattle.sg_journal.specs.declared.layout.TheConstants.{MAX_BATCH}
use Rattle.sg_journal.specs.declared.journal.Tail.{Tail}
use Rattle.sg_journal.specs.declared.journal.Tail.TheVariants.{Unmade, Torn, Closed, Waiting}

-- A number of bytes was read.
pub record TookMore {F : Type 0} (taken : F → List ℕ) (left : F → ℕ) (old new : F)
    (count : ℕ) : Type 0 where
  pub more : List ℕ
  pub size : length more ≡ count
  pub is : taken new ≡ taken old ++ more
  pub rest : left new + count ≡ left old

-- These bytes were read.
pub record Took {F : Type 0} (taken : F → List ℕ) (left : F → ℕ) (old new : F) (bytes : List ℕ) :
    Type 0 where
  pub is : taken new ≡ taken old ++ bytes
  pub rest : left new + length bytes ≡ left old

-- Some bytes were read. Whatever comes after them, no batch that counts begins with the first bytes
-- and these.
pub record TookNone {F : Type 0} (taken : F → List ℕ) (left : F → ℕ) (old new : F) (sector : ℕ)
    (first : List ℕ) : Type 0 where
  pub bytes : List ℕ
  pub took : Took taken left old new bytes
  pub nothing : (rest : List ℕ) → length rest ≡ left new
      → counts sector (first ++ (bytes ++ rest)) ≡ false

-- A closed gate was read.
pub record TookClosed {F : Type 0} (taken : F → List ℕ) (left : F → ℕ) (old new : F)
    (gate : List ℕ) : Type 0 where
  pub took : Took taken left old new gate
  pub closed : slice_index gate 0 ≢ 1

-- An open gate was read.
pub record TookOpen {F : Type 0} (taken : F → List ℕ) (left : F → ℕ) (old new : F) (gate : List ℕ) :
    Type 0 where
  pub took : Took taken left old new gate
  pub is_open : slice_index gate 0 ≡ 1

abbrev pub IsGateRead : {F : Type 0} → (F → List ℕ) → (F → ℕ) → F → F → ℕ → List ℕ → Option Tail
    → Type 0
IsGateRead taken left old new sector gate None = TookOpen taken left old new gate
IsGateRead taken left old new sector gate (Some Torn) = TookNone taken left old new sector []
IsGateRead taken left old new sector gate (Some Closed) = TookClosed taken left old new gate
IsGateRead taken left old new sector gate (Some Unmade) = ⊥
IsGateRead taken left old new sector gate (Some (Waiting written)) = ⊥

-- A whole body was read.
pub record TookBody {F : Type 0} (taken : F → List ℕ) (left : F → ℕ) (old new : F) (sector : ℕ)
    (body : List ℕ) (len : ℕ) : Type 0 where
  pub took : Took taken left old new (take (body_size sector len) body)
  pub is : len ≡ big_number 8 body
  pub within : len ≤ max_batch

abbrev pub IsBodyRead : {F : Type 0} → (F → List ℕ) → (F → ℕ) → F → F → ℕ → List ℕ → Option ℕ
    → Type 0
IsBodyRead taken left old new sector body (Some len) = TookBody taken left old new sector body len
IsBodyRead taken left old new sector body None =
    (gate : List ℕ) → length gate ≡ sector → TookNone taken left old new sector gate

-- What a reader comes to after some batches: one more, or the end of the batches.
abbrev pub IsNextRead : {F : Type 0} → (F → List ℕ) → (F → ℕ) → F → (sector end : ℕ)
    → (body : List ℕ) → List (List ℕ) → Next → Type 0
IsNextRead taken left new sector end body bs (Batch len) =
    IsHead sector (taken new) (bs ++ take len (drop 16 body) ∷ [])
    × (length (taken new) ≡ end + (sector + body_size sector len))
    × (len ≤ max_batch)
IsNextRead taken left new sector end body bs (End tail) =
    IsPlace (Some tail) (taken new) (left new) sector end bs

-- A whole first sector was read, or there was nothing to read.
pub record TookFirst {F : Type 0} (taken : F → List ℕ) (left : F → ℕ) (old new : F)
    (sector : ℕ) : Type 0 where
  pub valid : is_sector_length sector ≡ true
  pub whole : IsHead sector (taken new) []
  pub size : length (taken new) ≡ sector
  pub rest : left new + sector ≡ left old

abbrev pub IsFirstRead : {F : Type 0} → (F → List ℕ) → (F → ℕ) → F → F → Option ℕ → Type 0
IsFirstRead taken left old new (Some sector) = TookFirst taken left old new sector
IsFirstRead taken left old new None = (new ≡ old) × (left old ≡ 0)

-- Fewer bytes are left after a batch that was read.
abbrev pub LeavesLess : (before now : ℕ) → Next → Type 0
LeavesLess before now (Batch len) = now < before
LeavesLess before now (End tail) = Unit {0}

-- A batch that was read is within the limit.
abbrev pub IsWithin : Next → Type 0
IsWithin (Batch len) = len ≤ MAX_BATCH
IsWithin (End tail) = Unit {0}
