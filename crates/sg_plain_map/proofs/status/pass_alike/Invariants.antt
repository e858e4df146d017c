use Rattle.std.proofs.Common.{◌≡◌, ◌+◌, ◌-◌, ◌≤◌, length}
use Rattle.sg_table.specs.Table.{visited}
use Rattle.sg_plain_map.specs.Editing.{IsAt}
use Rattle.sg_table.specs.Records.{passed}
use Rattle.sg_plain_map.specs.Status.{AreInRow}
use Rattle.sg_plain_map.proofs.status.pass_alike.Given as goal

-- the addresses so far have records in a row
abbrev pub invariant-loop-run : goal.invariant-loop-run
invariant-loop-run l = record {
  order : l.fn.cursor.index ≤ l.end.index;
  next : l.next + l.fn.cursor.index ≡ l.lba + l.end.index;
  at : IsAt l.fn.table.records l.end l.next;
  row : AreInRow l.fn.table.records l.fn.cursor.index l.end.index l.lba l.kind;
  table : visited l.table (passed l.fn.cursor) ≡ visited l.fn.table (passed l.end);
}

abbrev pub decreases-loop-run : goal.decreases-loop-run
decreases-loop-run l = length l.fn.table.records - l.end.index
