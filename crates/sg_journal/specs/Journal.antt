-- What a file stands for, whatever a crash made of it.
use Rattle.std.specs.Prelude.{◌≡◌, ℕ, zero, suc, ◌+◌, ◌≤◌, nat_lt, List, [], ◌∷◌, ◌++◌, length}
use Rattle.std.specs.Prelude.{take, drop}
use Rattle.std.specs.Prelude.{Result, Ok, Err, if◌then◌else◌, ◌==◌, ◌⊎◌}
use Rattle.sg_journal.specs.Layout.{sector_of, counts, is_sound, records_in, size_in}
use Rattle.sg_journal.specs.declared.fault.Fault.{Fault}
use Rattle.sg_journal.specs.declared.fault.Fault.TheVariants.{NotADisk, Damaged}

-- The records of each batch, or why there are none.
abbrev pub Found : Type 0
Found = Result (List (List ℕ)) Fault

-- These batches first, and then what was found after them.
abbrev pub after : (first : List (List ℕ)) → Found → Found
after first (Ok others) = Ok (first ++ others)
after first (Err fault) = Err fault

-- The batches in these bytes, up to the first that does not count. The bytes begin at this offset
-- of the file, and have at most `most` batches.
abbrev pub batches_by : (most sector offset : ℕ) → List ℕ → Found
batches_by zero sector offset bytes = Ok []
batches_by (suc most) sector offset bytes =
    if counts sector bytes
    then (if is_sound sector bytes
    then after (records_in sector bytes ∷ [])
    (batches_by most sector (offset + size_in sector bytes) (drop (size_in sector bytes) bytes))
    else Err (Damaged offset))
    else Ok []

unfoldable pub batches : (sector offset : ℕ) → List ℕ → Found
batches sector offset bytes = batches_by (length bytes) sector offset bytes

-- The batches after a first sector of this length.
abbrev pub found_behind : List ℕ → Result ℕ Fault → Found
found_behind file (Err fault) = Err fault
found_behind file (Ok sector) =
    if nat_lt (length file) sector then Err NotADisk
    else batches sector sector (drop sector file)

-- A file of no bytes is a journal without batches, which was not made yet.
unfoldable pub found : (file : List ℕ) → Found
found file =
    if length file == 0 then Ok []
    else found_behind file (sector_of (take 16 file))

-- These bytes are a first sector and whole batches, whatever follows them.
pub record IsHead (sector : ℕ) (head : List ℕ) (bs : List (List ℕ)) : Type 0 where
  pub stands : (rest : List ℕ) → found (head ++ rest) ≡ after bs (batches sector (length head) rest)

-- The file has these batches, or all of the others too.
abbrev pub IsBeforeOrAfter : (bs others : List (List ℕ)) → (file : List ℕ) → Type 0
IsBeforeOrAfter bs others file = (found file ≡ Ok bs) ⊎ (found file ≡ Ok (bs ++ others))

-- ---- Cited only by private contracts

-- At most this number of bytes was added at the end.
pub record IsGrown (most : ℕ) (old new : List ℕ) : Type 0 where
  pub more : List ℕ
  pub is : new ≡ old ++ more
  pub short : length more ≤ most

-- The bytes in a range were replaced by any others.
pub record IsPut (at count : ℕ) (old new : List ℕ) : Type 0 where
  pub bytes : List ℕ
  pub size : length bytes ≡ count
  pub is : new ≡ take at old ++ bytes ++ drop (at + count) old

-- The first bytes are those of an outcome.
abbrev pub HasFirst : (count : ℕ) → (outcomes : List ℕ → Type 0) → (file : List ℕ) → Type 0
HasFirst count outcomes file =
    (old : List ℕ) × outcomes old × (take count file ≡ take count old)

-- The file was cut to a length, or the cut was undone in part.
pub record IsCut (len : ℕ) (old new : List ℕ) : Type 0 where
  pub left : ℕ
  pub no_less : len ≤ left
  pub is : new ≡ take left old
