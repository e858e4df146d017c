-- The state of a `BlockMap`, as its callers see it: a disk, records, slots and a meter.
use Rattle.std.specs.Prelude.{◌≡◌, ℕ, List, Some, map}
use Rattle.std.specs.FinMap.{get}
use Rattle.sg_store.specs.Disk.{Disk}
use Rattle.sg_store.specs.Meter.{Meter}
use Rattle.sg_pool.specs.MappedRecords.{SlotNumbers, slot_numbers}
use Rattle.sg_pool.specs.Slots.{Slots}
use Rattle.sg_table.specs.Table.{Table}
use Rattle.sg_block_map.specs.Runs.{address_run, expanded, chained_contents}
use Rattle.sg_block_map.specs.MaximalRuns.{AddressRun}
use Rattle.sg_block_map.specs.declared.block_map.BlockMap.{BlockMap}

-- The disk that it keeps.
abbrev pub disk_at : (capacity : ℕ) → Table → Slots → Disk
disk_at capacity table slots = record {
  capacity = capacity;
  pool = table.room;
  contents = chained_contents table.records slots;
}

abbrev pub disk_of : BlockMap → Disk
disk_of map = disk_at map.capacity map.table map.pool

-- The cost of its calls so far.
abbrev pub meter_at : Table → Slots → Meter
meter_at table slots = record {
  counts = record { visits = table.visits; probes = table.probes; links = slots.links };
  total = table.total;
  restarts = table.restarts;
}

abbrev pub meter_of : BlockMap → Meter
meter_of map = meter_at map.table map.pool

-- The addresses of its records, in their order.
abbrev pub records_of : BlockMap → List AddressRun
records_of block_map = map address_run block_map.table.records

-- The addresses that have a slot, each with its number.
abbrev pub slot_map : Table → Slots → SlotNumbers
slot_map table slots = slot_numbers (expanded slots.next table.records)

abbrev pub slots_by_address : BlockMap → SlotNumbers
slots_by_address map = slot_map map.table map.pool

-- Each address that has a slot keeps it.
abbrev pub Keeps : (before after : SlotNumbers) → Type 0
Keeps before after = (lba slot : ℕ) → get before lba ≡ Some slot → get after lba ≡ Some slot
