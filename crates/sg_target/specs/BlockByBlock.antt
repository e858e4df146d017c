-- ORWRITE and EXTENDED COPY block by block, as the store counts them.
use Rattle.std.specs.Prelude.{ℕ, ◌+◌, ◌*◌, ◌^◌, ◌≤◌, List}
use Rattle.sg_copy.specs.declared.copy_list.Segment.{Segment}
use Rattle.sg_store.specs.Disk.{Disk, disk_filled, max_pool}
use Rattle.sg_store.specs.Meter.{Meter, probe_bound}
use Rattle.sg_store.specs.declared.store.Counts.{Counts}
use Rattle.sg_target.specs.BlockCommands.{BlocksOutFields, copied, ored}

-- The disk after an ORWRITE.
abbrev pub disk_ored : Disk → BlocksOutFields → Disk
disk_ored disk out = record disk { contents = ored disk.contents out }

-- The disk after an EXTENDED COPY.
abbrev pub disk_copied : Disk → Segment → Disk
disk_copied disk segment = record disk { contents = copied disk.contents segment }

-- The disk with one block replaced.
abbrev pub block_filled : Disk → (lba : ℕ) → (block : List ℕ) → Disk
block_filled disk lba block = disk_filled disk lba 1 block

-- So little was counted that a block can be read and written.
pub record AreEarly (counts : Counts) : Type 0 where
  pub visits : counts.visits ≤ 2 ^ 61
  pub probes : counts.probes ≤ 2 ^ 61
  pub links : counts.links ≤ 2 ^ 61

-- A call that reads a block and one that writes a block count no more than this.
pub record CountsBlock (before after : Meter) : Type 0 where
  pub visits : after.counts.visits ≤ before.counts.visits + 6
  pub probes : after.counts.probes ≤ before.counts.probes + 2 * probe_bound
  pub links : after.counts.links ≤ before.counts.links + 2 * max_pool
