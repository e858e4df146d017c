-- What opening a file finds, and what a crash leaves of it.
use Rattle.std.specs.Prelude.{◌≡◌, ◌⊎◌, ℕ, List, [], ◌∷◌, length, Option, Some, None}
use Rattle.std.specs.Prelude.{option_and_then, Ok, Err}
use Rattle.std.specs.Option.{option_map}
use Rattle.sg_changes.specs.FirstRecord.{first_record, new_disk_kept}
use Rattle.sg_changes.specs.KeptFields.{KeptFields}
use Rattle.sg_changes.specs.Replay.{replayed}
use Rattle.sg_journal.specs.Journal.{Found, found}
use Rattle.sg_target.specs.Armed.{Armed}
use Rattle.sg_kept.specs.Kept.{powered, restored}

-- The first batch begins with the first record, which says how the disk was made. None if it does not, or
-- if another record is damaged.
unfoldable pub begun : (first : List ℕ) → Option KeptFields
begun first =
    option_and_then (λ read. replayed read.1 (new_disk_kept read.0)) (first_record.at first)

-- The records of all batches are applied, one batch after another.
abbrev pub replayed_all : (batches : List (List ℕ)) → KeptFields → Option KeptFields
replayed_all [] kept = Some kept
replayed_all (batch ∷ batches) kept = option_and_then (replayed_all batches) (replayed batch kept)

-- What the batches of a file leave. A file without batches was not made yet.
abbrev pub filed : (batches : List (List ℕ)) → Option KeptFields
filed [] = None
filed (first ∷ others) = option_and_then (replayed_all others) (begun first)

abbrev pub opened_of : Found → Option Armed
opened_of (Ok batches) = option_map restored (filed batches)
opened_of (Err fault) = None

-- The disk that opening a file finds, after power on. None if the file is no disk, or damaged.
unfoldable pub opened : (file : List ℕ) → Option Armed
opened file = opened_of (found file)

abbrev pub count_of : Found → Option ℕ
count_of (Ok batches) = Some (length batches)
count_of (Err fault) = None

-- The number of batches that a file has. None if it is no journal, or damaged.
unfoldable pub batch_count : (file : List ℕ) → Option ℕ
batch_count file = count_of (found file)

-- A crash left what the file stood for, or this disk after a power cycle.
abbrev pub IsBeforeOr : (before : List ℕ) → (disk : Armed) → (file : List ℕ) → Type 0
IsBeforeOr before disk file =
    (opened file ≡ opened before) ⊎ (opened file ≡ Some (powered disk))
