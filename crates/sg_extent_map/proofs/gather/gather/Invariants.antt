use Rattle.std.proofs.Common.{◌≡◌, ◌+◌, ◌-◌, ◌≤◌, length}
use Rattle.std.specs.List.{splice}
use Rattle.sg_table.specs.Table.{visited, probed, search_bound}
use Rattle.sg_extent_map.specs.Gathering.{overlaps}
use Rattle.sg_extent_map.proofs.gather.gather.Given as goal

-- the records so far were gathered, each with one visit
abbrev pub invariant-loop-at : goal.invariant-loop-at
invariant-loop-at l =
    let old = l.fn.table in
    record {
      from : l.gathered.from ≡ l.from;
      reached : l.from + length l.gathered.records ≡ l.at;
      same : splice old.records l.from l.at l.gathered.records ≡ old.records;
      few : length l.gathered.records ≤ overlaps l.low l.high l.gathered.records + 1;
      room : l.gathered.room ≡ l.fn.gathered.room;
      table : l.table ≡ visited (probed old (l.table.probes - old.probes))
          (length l.gathered.records);
      rise : old.probes ≤ l.table.probes;
      search : l.table.probes ≤ old.probes + search_bound;
    }
