-- Records of runs, in the order of their addresses.
use Rattle.std.specs.Prelude.{◌≡◌, ℕ, ◌+◌, ◌^◌, ◌<◌, ◌≤◌, zero, suc, List, [], ◌∷◌, length, slice_index_or}
use Rattle.std.specs.Prelude.{Bool, true, false, Option, Some, None, if◌then◌else◌, ◌==◌}
use Rattle.std.specs.List.{All}
use Rattle.sg_table.specs.declared.cursor.Cursor.{Cursor}
use Rattle.sg_table.specs.declared.run.Kind.{Kind}
use Rattle.sg_table.specs.declared.run.Kind.TheVariants.{Data, Anchored}
use Rattle.sg_table.specs.declared.run.Run.{Run}

-- Whether two kinds are the same.
abbrev pub same_kind : Kind → Kind → Bool
same_kind Data Data = true
same_kind Data Anchored = false
same_kind Anchored Data = false
same_kind Anchored Anchored = true

-- A record of one address.
abbrev pub single : (start slot : ℕ) → Kind → Run
single start slot kind =
    record { start = start; count = 1; first = slot; last = slot; kind = kind }

-- A record with another kind.
abbrev pub with_kind : Kind → Run → Run
with_kind kind run = record run { kind = kind }

-- The number of addresses of a record that have data, by its kind and its count. Then the same
-- number for records.
abbrev pub count_if_data : Kind → (count : ℕ) → ℕ
count_if_data Data count = count
count_if_data Anchored count = 0

abbrev pub data_in : List Run → ℕ
data_in [] = 0
data_in (run ∷ records) = count_if_data run.kind run.count + data_in records

-- A record has fewer than 2^32 addresses with data. In a list each record has fewer.
abbrev pub FitsCount : Run → Type 0
FitsCount run = count_if_data run.kind run.count < 2 ^ 32

abbrev pub FitCounts : List Run → Type 0
FitCounts records = All FitsCount records

-- The address of the record at an index.
abbrev pub start_of : List Run → ℕ → ℕ
start_of [] index = 0
start_of (run ∷ records) zero = run.start
start_of (run ∷ records) (suc index) = start_of records index

-- The addresses rise from record to record.
abbrev pub IsSorted : List Run → Type 0
IsSorted records = (i j : ℕ) → i < j → j < length records → start_of records i < start_of records j

-- The first slots of the records.
abbrev pub slots_of : List Run → List ℕ
slots_of [] = []
slots_of (run ∷ records) = run.first ∷ slots_of records

-- The slot of each record is below `count`.
abbrev pub HaveSlots : List Run → (count : ℕ) → Type 0
HaveSlots records count = (i : ℕ) (run : Run) →
    i < length records → slice_index_or records i run ≡ run → run.first < count

-- The index of the first record that is not before the address, or the end of the table.
pub record IsLowerBound (records : List Run) (index address : ℕ) : Type 0 where
  pub within : index ≤ length records
  pub before : (i : ℕ) → i < index → start_of records i < address
  pub after : (i : ℕ) → index ≤ i → i < length records → address ≤ start_of records i

-- The record at the index, or none at the end.
abbrev pub IsNext : List Run → (index : ℕ) → Option Run → Type 0
IsNext records index None = length records ≤ index
IsNext records index (Some run) = (index < length records) × (slice_index_or records index run ≡ run)

-- The record, if it begins at the address.
abbrev pub run_at : Option Run → (address : ℕ) → Option Run
run_at None address = None
run_at (Some run) address = if run.start == address then Some run else None

-- The end of the addresses without a record: at the next record, or at a bound.
abbrev pub end_of_gap : (next : Option Run) → (bound : ℕ) → ℕ
end_of_gap None bound = bound
end_of_gap (Some run) bound = run.start

-- One if a record was visited before the caller reaches its address.
abbrev pub ahead : Option Run → ℕ
ahead None = 0
ahead (Some run) = 1

-- The number of records of the table that were visited up to the cursor.
abbrev pub passed : Cursor → ℕ
passed cursor = cursor.index + ahead cursor.next
