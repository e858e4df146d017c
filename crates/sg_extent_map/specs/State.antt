-- The state of an `ExtentMap`, as its callers see it: a disk and a meter.
use Rattle.std.specs.Prelude.{List}
use Rattle.sg_store.specs.Disk.{Disk}
use Rattle.sg_store.specs.Meter.{Meter}
use Rattle.sg_table.specs.Table.{Table}
use Rattle.sg_table.specs.declared.run.Run.{Run}
use Rattle.sg_extent_map.specs.Extents.{stored}
use Rattle.sg_extent_map.specs.declared.extent_map.ExtentMap.{ExtentMap}

-- The disk that it keeps.
abbrev pub disk_of : ExtentMap → Disk
disk_of map = record {
  capacity = map.capacity;
  pool = map.table.room;
  contents = stored map.table map.pool;
}

-- The extents of its table, in their order.
abbrev pub extents_of : ExtentMap → List Run
extents_of map = map.table.records

-- The cost of its calls so far. It follows no links.
abbrev pub meter_at : Table → Meter
meter_at table = record {
  counts = record { visits = table.visits; probes = table.probes; links = 0 };
  total = table.total;
  restarts = table.restarts;
}

abbrev pub meter_of : ExtentMap → Meter
meter_of map = meter_at map.table
