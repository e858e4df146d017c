use Rattle.std.proofs.Common.{◌≡◌, ℕ, ◌-◌, ◌<◌, ◌≤◌, length}
use Rattle.std.specs.List.{splice}
use Rattle.sg_table.specs.Records.{start_of}
use Rattle.sg_table.specs.Table.{visited}
use Rattle.sg_block_map.specs.Gathering.{end_index}
use Rattle.sg_block_map.proofs.gather.gather_from.Given as goal

-- the runs so far are gathered, and begin before the address
abbrev pub invariant-loop-at : goal.invariant-loop-at
invariant-loop-at l =
    let rs = l.fn.table.records in
    record {
      from : (l.gathered.from ≡ l.fn.gathered.from) × (l.gathered.room ≡ l.fn.gathered.room);
      reached : end_index l.gathered ≡ l.at;
      within : l.at ≤ length rs;
      same : splice rs l.gathered.from l.at l.gathered.records ≡ rs;
      near : (i : ℕ) → l.index ≤ i → i < l.at → start_of rs i < l.high;
      table : l.table ≡ visited l.fn.table (l.at - l.index);
    }
