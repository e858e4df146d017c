use Rattle.std.proofs.Common.{◌≡◌, ℕ, ◌+◌, ◌-◌, ◌≤◌, length, drop}
use Rattle.sg_table.specs.Records.{passed}
use Rattle.sg_table.specs.Table.{visited}
use Rattle.sg_extent_map.specs.Extents.{singles}
use Rattle.sg_extent_map.specs.Status.{AreOfKind, IsExtentTable, IsOver}
use Rattle.sg_extent_map.proofs.status.pass_alike.Given as goal

-- the addresses so far have the kind
abbrev pub invariant-loop-run : goal.invariant-loop-run
invariant-loop-run l =
    let rs = l.fn.table.records in
    record {
      row : AreOfKind rs l.lba l.next l.kind;
      at : IsOver rs l.end l.next;
      order : l.lba ≤ l.next;
      index : l.fn.cursor.index ≤ l.end.index;
      few : l.end.index + l.lba ≤ l.fn.cursor.index + l.next;
      short : l.next + length (singles (drop l.end.index rs))
          ≤ l.lba + length (singles (drop l.fn.cursor.index rs));
      within : (capacity : ℕ) → IsExtentTable capacity rs → l.lba ≤ capacity → l.next ≤ capacity;
      table : visited l.table (passed l.fn.cursor) ≡ visited l.fn.table (passed l.end);
    }

abbrev pub decreases-loop-run : goal.decreases-loop-run
decreases-loop-run l = length l.fn.table.records - l.end.index
