-- Laws of the format.
use Rattle.std.specs.Prelude.{◌≡◌, ◌<◌, ◌≤◌, ℕ, List, [], ◌++◌, length, take, true, false, Ok, Err}
use Rattle.std.specs.List.{All, flat_map}
use Rattle.sg_journal.specs.Layout.{first_sector, whole_batch, closed_gate, counts}
use Rattle.sg_journal.specs.Layout.{is_sector_length}
use Rattle.sg_journal.specs.Layout.{is_sound, max_batch}
use Rattle.sg_journal.specs.Journal.{found}
use Rattle.sg_journal.specs.declared.fault.Fault.TheVariants.{Damaged}

-- A first sector and these batches.
abbrev pub written : (sector : ℕ) → List (List ℕ) → List ℕ
written sector bs = first_sector sector ++ flat_map (whole_batch sector) bs

-- The sectors have a length that a file may have, and each batch is within the limit.
pub record IsWritable (sector : ℕ) (bs : List (List ℕ)) : Type 0 where
  pub valid : is_sector_length sector ≡ true
  pub within : All (λ records. length records ≤ max_batch) bs

abbrev pub NoBytesHaveNoBatches : Type 0
NoBytesHaveNoBatches = found [] ≡ Ok []

abbrev pub BatchesAreFound : Type 0
BatchesAreFound =
    (sector : ℕ) (bs : List (List ℕ)) → IsWritable sector bs → found (written sector bs) ≡ Ok bs

abbrev pub AClosedGateHidesTheRest : Type 0
AClosedGateHidesTheRest =
    (sector : ℕ) (bs : List (List ℕ)) → IsWritable sector bs
    → (rest : List ℕ) → found (written sector bs ++ (closed_gate sector ++ rest)) ≡ Ok bs

abbrev pub ABatchCutShortDoesNotCount : Type 0
ABatchCutShortDoesNotCount =
    (sector : ℕ) (bs : List (List ℕ)) → IsWritable sector bs
    → (records : List ℕ) → length records ≤ max_batch
    → (n : ℕ) → n < length (whole_batch sector records)
    → found (written sector bs ++ take n (whole_batch sector records)) ≡ Ok bs

abbrev pub AnotherChecksumIsDamage : Type 0
AnotherChecksumIsDamage =
    (sector : ℕ) (bs : List (List ℕ)) → IsWritable sector bs
    → (bytes : List ℕ) → counts sector bytes ≡ true → is_sound sector bytes ≡ false
    → found (written sector bs ++ bytes) ≡ Err (Damaged (length (written sector bs)))
