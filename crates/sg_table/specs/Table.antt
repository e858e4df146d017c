-- A table is its records and its counts of visits, probes and moves.
use Rattle.std.specs.Prelude.{ℕ, ◌+◌, List, []}
use Rattle.std.specs.List.{splice}
use Rattle.sg_table.specs.declared.run.Run.{Run}

-- The records, and the number of records that there is room for. `visits` and `probes` count from
-- the last restart on. `total` counts all visits, `restarts` the restarts, and `moved` the records
-- that were moved so far.
pub record Table : Type 0 where
  pub records : List Run
  pub room : ℕ
  pub visits : ℕ
  pub probes : ℕ
  pub total : ℕ
  pub restarts : ℕ
  pub moved : ℕ

-- No record is in the table, and nothing was counted yet.
abbrev pub new_table : (room : ℕ) → Table
new_table room = record {
  records = [];
  room = room;
  visits = 0;
  probes = 0;
  total = 0;
  restarts = 0;
  moved = 0;
}

-- `count` records were visited.
abbrev pub visited : Table → (count : ℕ) → Table
visited table count = record table { visits = table.visits + count; total = table.total + count }

-- The addresses of `count` records were compared.
abbrev pub probed : Table → (count : ℕ) → Table
probed table count = record table { probes = table.probes + count }

-- The most addresses that a binary search of the largest table compares.
abbrev pub search_bound : ℕ
search_bound = 33

-- The counts of visits and probes begin again.
abbrev pub restarted_table : Table → Table
restarted_table table = record table { visits = 0; probes = 0; restarts = table.restarts + 1 }

-- Other records replace the records from one index to another.
abbrev pub spliced : Table → (from to : ℕ) → List Run → Table
spliced table from to runs = record table { records = splice table.records from to runs }
