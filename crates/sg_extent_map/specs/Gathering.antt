-- The extents near a range: the ones that the range meets, and the ones right before and after it.
use Rattle.std.specs.Prelude.{◌≡◌, ℕ, ◌+◌, ◌-◌, ◌<◌, ◌≤◌, zero, suc, List, [], ◌∷◌, ◌++◌}
use Rattle.std.specs.Prelude.{min, max, length, take, drop}
use Rattle.std.specs.List.{splice, sum_by}
use Rattle.sg_store.specs.Disk.{max_capacity}
use Rattle.sg_table.specs.Draft.{Drafted}
use Rattle.sg_table.specs.Table.{Table, visited, probed, search_bound}
use Rattle.sg_table.specs.declared.run.Run.{Run}
use Rattle.sg_pool.specs.Rising.{end_of, AreApart}

-- The address past the extent at an index.
abbrev pub end_at : List Run → ℕ → ℕ
end_at [] index = 0
end_at (run ∷ records) zero = end_of run
end_at (run ∷ records) (suc index) = end_at records index

-- The number of addresses of an extent that lie between two others, and of all extents of a list.
abbrev pub overlap : (low high : ℕ) → Run → ℕ
overlap low high run = min (end_of run) high - max run.start low

abbrev pub overlaps : (low high : ℕ) → List Run → ℕ
overlaps low high runs = sum_by (overlap low high) runs

-- The index after the extents that were gathered.
abbrev pub end_index : Drafted → ℕ
end_index gathered = gathered.from + length gathered.records

-- The first extent of a list begins before an address. The last one begins at an address or past
-- it.
abbrev pub BeginsBelow : (low : ℕ) → List Run → Type 0
BeginsBelow low runs = (run : Run) × (more : List Run) × (runs ≡ run ∷ more) × (run.start < low)

abbrev pub EndsFrom : (high : ℕ) → List Run → Type 0
EndsFrom high runs =
    (run : Run) × (more : List Run) × (runs ≡ more ++ run ∷ []) × (high ≤ run.start)

-- All extents that have an address between two others were gathered from the table, and at most
-- two others. The extents that were not gathered lie before and after the range.
pub record AreGathered (records : List Run) (gathered : Drafted) (low high : ℕ) : Type 0 where
  pub within : end_index gathered ≤ length records
  pub same : splice records gathered.from (end_index gathered) gathered.records ≡ records
  pub before : AreApart 0 low (take gathered.from records)
  pub rest : AreApart low max_capacity (drop 1 gathered.records)
  pub after : AreApart high max_capacity (drop (end_index gathered) records)
  pub begins : 0 < gathered.from → BeginsBelow low gathered.records
  pub ends : end_index gathered < length records → EndsFrom high gathered.records
  pub few : length gathered.records ≤ overlaps low high gathered.records + 2

-- The call compares addresses in one binary search of the table, and then visits `count` records.
pub record SearchesAndVisits (count : ℕ) (before after : Table) : Type 0 where
  pub table : after ≡ visited (probed before (after.probes - before.probes)) count
  pub probes_rise : before.probes ≤ after.probes
  pub search : after.probes ≤ before.probes + search_bound
