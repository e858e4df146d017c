use Rattle.std.proofs.Common.{◌≡◌, ◌+◌, ◌-◌, ◌<◌, ◌≤◌, length, take}
use Rattle.std.specs.List.{splice}
use Rattle.sg_pool.specs.MappedRecords.{outside_records}
use Rattle.sg_block_map.specs.Runs.{expanded, AreRuns, blocks_of}
use Rattle.sg_block_map.proofs.unmap.unmap_runs.Given as goal

-- the runs so far are cut: they have lost the range's addresses, and they keep all others
abbrev pub invariant-loop-i : goal.invariant-loop-i
invariant-loop-i l =
    let rs = l.fn.table.records in
    let now = splice rs l.from (l.from + l.i) l.remaining.items in
    record {
      runs : AreRuns now l.pool l.fn.table.room;
      same : outside_records (expanded l.pool.next now) l.low (l.high - l.low)
          ≡ outside_records (expanded l.fn.pool.next rs) l.low (l.high - l.low);
      outside : outside_records (expanded l.pool.next l.remaining.items) l.low (l.high - l.low)
          ≡ expanded l.pool.next l.remaining.items;
      none : l.i ≡ 0 → length l.remaining.items ≡ 0;
      few : l.i < length l.runs → length l.remaining.items ≤ 1;
      most : length l.remaining.items ≤ 3;
      blocks : l.pool.blocks ≡ l.fn.pool.blocks;
      rise : l.fn.pool.links ≤ l.pool.links;
      links : l.pool.links ≤ l.fn.pool.links + blocks_of (take l.i l.gathered.records);
    }
