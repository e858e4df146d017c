-- How far a file was read, and which batches were found on the way.
use Rattle.std.specs.Prelude.{◌≡◌, ◌<◌, ◌≤◌, ℕ, ◌+◌, ◌^◌, List, ◌++◌, length, true, false}
use Rattle.std.specs.Prelude.{Option, Some, None, IsSome, Result, IsErrOf, Err}
use Rattle.sg_journal.specs.Layout.{counts, is_sector_length}
use Rattle.sg_journal.specs.Journal.{found, IsHead}
use Rattle.sg_journal.specs.JournalState.{IsClosed, IsUnmade}
use Rattle.sg_journal.specs.declared.fault.Fault.{Fault}
use Rattle.sg_journal.specs.declared.reader.OpenError.{OpenError}
use Rattle.sg_journal.specs.declared.reader.OpenError.TheVariants.{Device}
use Rattle.sg_journal.specs.declared.reader.Reader.{Reader}
use Rattle.sg_journal.specs.declared.journal.Tail.{Tail}
use Rattle.sg_journal.specs.declared.journal.Tail.TheVariants.{Unmade, Torn, Closed, Waiting}

-- What was read is a first sector and whole batches, whatever is still to be read.
pub record IsBetween (taken : List ℕ) (left sector end : ℕ) (bs : List (List ℕ)) : Type 0 where
  pub whole : IsHead sector taken bs
  pub place : end ≡ length taken

-- The batches end within what was read, whatever is still to be read.
pub record IsPast (taken : List ℕ) (left sector end : ℕ) (bs : List (List ℕ)) : Type 0 where
  pub head : List ℕ
  pub behind : List ℕ
  pub is : taken ≡ head ++ behind
  pub whole : IsHead sector head bs
  pub place : end ≡ length head
  pub nothing : (rest : List ℕ) → length rest ≡ left → counts sector (behind ++ rest) ≡ false

-- There was nothing to read.
pub record IsEmpty (taken : List ℕ) (left sector end : ℕ) (bs : List (List ℕ)) : Type 0 where
  pub all : left ≡ 0
  pub unmade : IsUnmade end taken bs

-- Where a reader is. A closed gate ends the batches, whatever is still to be read.
abbrev pub IsPlace : Option Tail → (taken : List ℕ) → (left sector end : ℕ) → List (List ℕ) → Type 0
IsPlace None taken left sector end bs = IsBetween taken left sector end bs
IsPlace (Some Torn) taken left sector end bs = IsPast taken left sector end bs
IsPlace (Some Closed) taken left sector end bs = IsClosed sector end taken bs
IsPlace (Some Unmade) taken left sector end bs = IsEmpty taken left sector end bs
IsPlace (Some (Waiting written)) taken left sector end bs = ⊥

-- The reader found these batches so far.
pub record HasFound {F D : Type 0} (taken : F → List ℕ) (left : F → ℕ) (reader : Reader F D)
    (bs : List (List ℕ)) : Type 0 where
  pub valid : is_sector_length reader.sector ≡ true
  pub total : length (taken reader.source) + left reader.source ≡ reader.length
  pub fits : reader.length < 2 ^ 64
  pub place :
      IsPlace reader.ended (taken reader.source) (left reader.source) reader.sector reader.end bs

-- The reader came to the end of the batches.
abbrev pub HasEnded : {F D : Type 0} → Reader F D → Type 0
HasEnded reader = IsSome reader.ended

-- Whatever is still to be read, the file has this fault.
abbrev pub IsFaulty : (taken : List ℕ) → (left : ℕ) → Fault → Type 0
IsFaulty taken left fault =
    (rest : List ℕ) → length rest ≡ left → found (taken ++ rest) ≡ Err fault

-- A file was read to its end, and has these bytes.
pub record WasRead {F : Type 0} (known taken : F → List ℕ) (left : F → ℕ) (source : F) (file : List ℕ)
    : Type 0 where
  pub read : F
  pub same : known read ≡ known source
  pub all : left read ≡ 0
  pub is : file ≡ taken read

-- The error that the device failed is returned only if it failed during the call.
pub record IsHonest {T : Type 0} (before now : ℕ) (result : Result T OpenError) : Type 0 where
  pub later : before ≤ now
  pub failed : IsErrOf result Device → before < now
