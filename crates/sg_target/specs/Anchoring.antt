-- The cost of anchoring extents, as the store counts it.
use Rattle.std.specs.Prelude.{ℕ, ◌*◌, ◌^◌, ◌≤◌, List, map, true, Result, OnOk}
use Rattle.sg_wire.specs.UnmapList.{maximum_unmap_descriptors}
use Rattle.sg_store.specs.Disk.{Contents, Disk, max_capacity, max_pool, need}
use Rattle.sg_store.specs.Meter.{Meter, probe_bound}
use Rattle.sg_store.specs.declared.store.Counts.{Counts}
use Rattle.sg_target.specs.Charge.{CostBounds, IsWithinPrice, least_over}
use Rattle.sg_target.specs.Joining.{cost_of}
use Rattle.sg_target.specs.Ranges.{Range}
use Rattle.sg_target.specs.declared.joining.AddressRange.{AddressRange}
use Rattle.sg_wire.specs.declared.extent.Extent.{Extent}
use Rattle.sg_target.specs.ProvisioningCommands.{Change, changed_in_turn}

abbrev pub disk_changed_in_turn : Change → Disk → List Extent → Disk
disk_changed_in_turn change disk extents =
    record disk { contents = changed_in_turn change disk.contents extents }

-- The number of blocks of the pool that ranges need, if they have no address in common.
abbrev pub need_of : Contents → List AddressRange → ℕ
need_of contents ranges = cost_of (need contents) ranges

-- Ranges over which the store only counts the blocks that they need.
abbrev pub counted : Contents → AddressRange → Range
counted contents addresses =
    record { contents = contents; lba = addresses.lba; count = addresses.count; counted = true }

abbrev pub counted_ranges : Contents → List AddressRange → List Range
counted_ranges contents ranges = map (counted contents) ranges

-- The disk is no larger than a store's may be.
pub record HasAllowedSize (disk : Disk) : Type 0 where
  pub capacity : disk.capacity ≤ max_capacity
  pub pool : disk.pool ≤ max_pool

-- The most records that are visited over the ranges of a parameter list. Each range has at most
-- `max_capacity` addresses.
abbrev pub visits_of_list : ℕ
visits_of_list = maximum_unmap_descriptors * 2 ^ 41

-- No more was counted than the ranges of one parameter list may cost.
pub record AreOfOneList (counts : Counts) : Type 0 where
  pub visits : counts.visits ≤ visits_of_list
  pub probes : counts.probes ≤ probe_bound * maximum_unmap_descriptors
  pub links : counts.links ≤ max_pool * maximum_unmap_descriptors

-- A call that can fail has counted no more than ranges may cost, since a restart. If it succeeds,
-- it has counted no less than they cost at least.
pub record CostsOnOk {T E : Type 0} (result : Result T E) (bounds : CostBounds) (pool : ℕ)
    (over : List Range) (before after : Meter) : Type 0 where
  pub charge : IsWithinPrice bounds pool over before after
  pub least : OnOk result (least_over bounds.least over ≤ after.counts.visits)
