use Rattle.std.proofs.Common.{◌≡◌, ℕ, ◌+◌, ◌-◌, ◌≤◌, List}
use Rattle.sg_wire.specs.Cut.{answer_of}
use Rattle.sg_pool.specs.MappedRecords.{contents_of}
use Rattle.sg_store.specs.Disk.{used_among}
use Rattle.sg_table.specs.Records.{passed}
use Rattle.sg_table.specs.Table.{visited}
use Rattle.sg_extent_map.specs.Extents.{singles}
use Rattle.sg_extent_map.specs.Status.{IsOver}
use Rattle.sg_store.proofs.StatusLemmas.{AreWritten}
use Rattle.sg_extent_map.proofs.status.write_descriptors.Given as goal

-- the first descriptors are written, and the cursor is where they end
abbrev pub invariant-loop-next : goal.invariant-loop-next
invariant-loop-next l =
    let rs = l.fn.table.records in
    let from = l.fn.cursor.index in
    record {
      low : l.lba ≤ l.next;
      order : from ≤ l.cursor.index;
      cursor : IsOver rs l.cursor l.next;
      room : l.count ≤ 512;
      written : (blocks : List (List ℕ)) → AreWritten (contents_of (singles rs) blocks) l.capacity
          l.lba (answer_of l.fn.cut) (answer_of l.cut) l.count l.next;
      few : (blocks : List (List ℕ)) → l.cursor.index
          ≤ from + used_among (contents_of (singles rs) blocks) l.lba (l.next - l.lba);
      table : visited l.table (passed l.fn.cursor) ≡ visited l.fn.table (passed l.cursor);
    }

abbrev pub decreases-loop-next : goal.decreases-loop-next
decreases-loop-next l = 512 - l.count
