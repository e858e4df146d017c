-- The runs near a range: each of them meets the range or touches one of its ends.
use Rattle.std.specs.Prelude.{◌≡◌, ℕ, ◌+◌, ◌-◌, ◌<◌, ◌≤◌, zero, suc, List, [], ◌∷◌, Bool}
use Rattle.std.specs.Prelude.{nat_le, nat_lt, ◌&&◌, min, max, length, take, drop}
use Rattle.std.specs.List.{splice}
use Rattle.sg_table.specs.Draft.{Drafted}
use Rattle.sg_table.specs.Records.{start_of}
use Rattle.sg_table.specs.Table.{Table}
use Rattle.sg_table.specs.declared.run.Run.{Run}
use Rattle.sg_pool.specs.Slots.{max_slots}
use Rattle.sg_block_map.specs.Runs.{AreMaximal}
use Rattle.sg_pool.specs.Rising.{end_of}

-- The address past the run at an index.
abbrev pub end_at : List Run → ℕ → ℕ
end_at [] index = 0
end_at (run ∷ records) zero = end_of run
end_at (run ∷ records) (suc index) = end_at records index

-- No run ends before an address or begins past another.
abbrev pub AreNear : (low high : ℕ) → List Run → Type 0
AreNear low high [] = Unit
AreNear low high (run ∷ runs) = (low ≤ end_of run) × (run.start ≤ high) × AreNear low high runs

-- Whether a run begins at an address or past it, and before another.
abbrev pub starts_in : (low high : ℕ) → Run → Bool
starts_in low high run = nat_le low run.start && nat_lt run.start high

-- The index after the runs that were gathered.
abbrev pub end_index : Drafted → ℕ
end_index gathered = gathered.from + length gathered.records

-- A table that is no larger than allowed, and a list of runs with room for all of its records.
pub record HaveRoom (table : Table) (gathered : Drafted) : Type 0 where
  pub fits : length table.records ≤ table.room
  pub table_size : table.room ≤ max_slots
  pub room : gathered.room ≡ table.room

-- All runs near a range were gathered from the table, and no other.
pub record AreGathered (records : List Run) (gathered : Drafted) (low high bound : ℕ) : Type 0 where
  pub within : end_index gathered ≤ length records
  pub same : splice records gathered.from (end_index gathered) gathered.records ≡ records
  pub before : AreMaximal 0 low (take gathered.from records)
  pub near : AreNear low high gathered.records
  pub after : AreMaximal (high + 1) bound (drop (end_index gathered) records)

-- The run before an index was gathered if it reaches an address.
pub record AreBegun (records : List Run) (gathered : Drafted) (index low : ℕ) : Type 0 where
  pub reached : end_index gathered ≡ index
  pub same : splice records gathered.from index gathered.records ≡ records
  pub one : index ≤ gathered.from + 1
  pub reach : (i : ℕ) → gathered.from ≤ i → i < index → low ≤ end_at records i
  pub before : gathered.from ≡ index → 0 < index → end_at records (index - 1) < low

-- Records up to an index were gathered.
pub record AreGatheredTo (records : List Run) (gathered : Drafted) (index : ℕ) : Type 0 where
  pub reached : end_index gathered ≡ index
  pub within : index ≤ length records
  pub same : splice records gathered.from index gathered.records ≡ records

-- The records from an index on that begin no later than an address were gathered, too.
pub record AreGatheredOn (records : List Run) (old new : Drafted) (index high : ℕ) : Type 0 where
  pub from : new.from ≡ old.from
  pub order : index ≤ end_index new
  pub within : end_index new ≤ length records
  pub same : splice records new.from (end_index new) new.records ≡ records
  pub near : (i : ℕ) → index ≤ i → i < end_index new → start_of records i ≤ high
  pub after : end_index new < length records → high < start_of records (end_index new)

-- The number of addresses of a run that lie between two others.
abbrev pub overlap : (low high : ℕ) → Run → ℕ
overlap low high run = min (end_of run) high - max run.start low
