-- The state of a `PlainMap`, as its callers see it: a disk and a meter.
use Rattle.sg_store.specs.Disk.{Disk}
use Rattle.sg_store.specs.Meter.{Meter}
use Rattle.sg_plain_map.specs.Editing.{stored}
use Rattle.sg_plain_map.specs.declared.plain_map.PlainMap.{PlainMap}

-- The disk that it keeps.
abbrev pub disk_of : PlainMap → Disk
disk_of map = record {
  capacity = map.capacity;
  pool = map.table.room;
  contents = stored map.table map.pool;
}

-- The cost of its calls so far. It follows no links.
abbrev pub meter_of : PlainMap → Meter
meter_of map = record {
  counts = record { visits = map.table.visits; probes = map.table.probes; links = 0 };
  total = map.table.total;
  restarts = map.table.restarts;
}
