-- Why a file is not opened.
use Rattle.std.specs.Prelude.{◌≡◌, ◌<◌, ℕ, ◌+◌, List, [], ◌∷◌, ◌++◌, length, Option, Some, None, Ok}
use Rattle.sg_changes.specs.FirstRecord.{NewDiskFields, first_record, first_record_length}
use Rattle.sg_changes.specs.FirstRecord.{new_disk_kept}
use Rattle.sg_changes.specs.KeptFields.{KeptFields}
use Rattle.sg_changes.specs.Replay.{IsDamagedAt}
use Rattle.sg_journal.specs.Journal.{Found, after, found}
use Rattle.sg_journal.specs.Reading.{IsFaulty}
use Rattle.sg_kept.specs.declared.opening.OpenDiskError.{OpenDiskError}
use Rattle.sg_kept.specs.declared.opening.OpenDiskError.TheVariants.{Memory, Device, File, Unmade}
use Rattle.sg_kept.specs.declared.opening.OpenDiskError.TheVariants.{Damaged, TooLong}
use Rattle.sg_kept.specs.Disk.{longest_file}
use Rattle.sg_kept.specs.Opened.{filed, opened}

-- Whatever is still to be read, the file begins with these batches.
abbrev pub BeginsWith : (taken : List ℕ) → (left : ℕ) → (batches : List (List ℕ)) → Type 0
BeginsWith taken left batches =
    (rest : List ℕ) → length rest ≡ left
    → (others : Found) × (found (taken ++ rest) ≡ after batches others)

-- A first batch is damaged at an offset: its first record cannot be read, or a record after that one
-- cannot be read or does not apply.
abbrev pub IsDamagedAfter : (first : Option (NewDiskFields × List ℕ)) → (offset : ℕ) → Type 0
IsDamagedAfter None offset = offset ≡ 0
IsDamagedAfter (Some read) offset =
    (behind : ℕ) × (offset ≡ first_record_length + behind)
    × IsDamagedAt read.1 (new_disk_kept read.0) behind

-- The batches before this one are sound, and it is damaged at an offset.
abbrev pub IsDamagedBehind : (before : List (List ℕ)) → (batch : List ℕ) → (offset : ℕ) → Type 0
IsDamagedBehind [] batch offset = IsDamagedAfter (first_record.at batch) offset
IsDamagedBehind (first ∷ others) batch offset =
    (left : KeptFields) × (filed (first ∷ others) ≡ Some left) × IsDamagedAt batch left offset

-- The batch with an index is damaged at an offset. The first batch has index 0.
pub record HasDamage (taken : List ℕ) (left index offset : ℕ) : Type 0 where
  pub before : List (List ℕ)
  pub batch : List ℕ
  pub begins : BeginsWith taken left (before ++ batch ∷ [])
  pub place : length before ≡ index
  pub damaged : IsDamagedBehind before batch offset

-- What an error says of a file, by what was read of it. It is true whatever is still to be read.
abbrev pub IsTrueOf : OpenDiskError → (taken : List ℕ) → (left : ℕ) → Type 0
IsTrueOf Memory taken left = Unit {0}
IsTrueOf Device taken left = Unit {0}
IsTrueOf (File fault) taken left = IsFaulty taken left fault
IsTrueOf Unmade taken left = (rest : List ℕ) → length rest ≡ left → found (taken ++ rest) ≡ Ok []
IsTrueOf (Damaged index offset) taken left = HasDamage taken left index offset
IsTrueOf TooLong taken left = longest_file < left

-- An error that lies in the bytes of a file.
abbrev pub IsOfBytes : OpenDiskError → Type 0
IsOfBytes Memory = ⊥
IsOfBytes Device = ⊥
IsOfBytes TooLong = ⊥
IsOfBytes _ = Unit {0}

-- Whatever is still to be read, the file is no disk.
abbrev pub IsNoDisk : (taken : List ℕ) → (left : ℕ) → Type 0
IsNoDisk taken left = (rest : List ℕ) → length rest ≡ left → opened (taken ++ rest) ≡ None

-- ---- Cited only by private contracts

-- What an error says of a first batch.
abbrev pub IsTrueOfFirst : (first : List ℕ) → OpenDiskError → Type 0
IsTrueOfFirst first Memory = Unit {0}
IsTrueOfFirst first (Damaged index offset) =
    (index ≡ 0) × IsDamagedAfter (first_record.at first) offset
IsTrueOfFirst first _ = ⊥
