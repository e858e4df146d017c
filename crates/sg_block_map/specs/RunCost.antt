-- The cost of a call over a range, in a store that has a record for each maximal run.
use Rattle.std.specs.Prelude.{ℕ, ◌+◌, ◌^◌, ◌<◌, ◌≤◌, length}
use Rattle.sg_store.specs.Disk.{Contents, Disk}
use Rattle.sg_store.specs.Meter.{Charged, Meter}
use Rattle.sg_block_map.specs.MaximalRuns.{runs, meet, blocks_near}

-- A call visits at least the record of each maximal run that the range meets,
abbrev pub block_least : Contents → (lba count : ℕ) → ℕ
block_least contents lba count = meet contents lba count

-- and at most two more.
abbrev pub block_price : Contents → (lba count : ℕ) → ℕ
block_price contents lba count = meet contents lba count + 2

-- The comparisons and the links of a call over a range, by the maximal runs before the call. The
-- call compares at most one address more than the number of runs has binary digits. It follows at
-- most as many links as there are blocks in the runs that meet the range or touch its ends.
pub record CostsRuns (contents : Contents) (lba count : ℕ) (before after : Meter) : Type 0 where
  pub probes : (digits : ℕ) → length (runs contents) < 2 ^ digits
      → after.counts.probes ≤ before.counts.probes + digits + 1
  pub links : after.counts.links ≤ before.counts.links + blocks_near contents lba count

-- The whole cost of a call over a range, by the disk before the call.
pub record CostsRange (disk : Disk) (lba count : ℕ) (before after : Meter) : Type 0 where
  pub charge : Charged disk.pool (block_price disk.contents lba count)
      (block_least disk.contents lba count) before after
  pub runs : CostsRuns disk.contents lba count before after
