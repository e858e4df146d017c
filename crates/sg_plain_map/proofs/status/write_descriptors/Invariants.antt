use Rattle.std.proofs.Common.{◌≡◌, ℕ, ◌+◌, ◌-◌, ◌≤◌, List}
use Rattle.sg_wire.specs.Cut.{answer_of}
use Rattle.sg_pool.specs.MappedRecords.{contents_of}
use Rattle.sg_table.specs.Records.{ahead}
use Rattle.sg_table.specs.Table.{visited}
use Rattle.sg_plain_map.specs.Editing.{IsAt}
use Rattle.sg_store.proofs.StatusLemmas.{AreWritten}
use Rattle.sg_plain_map.proofs.status.write_descriptors.Given as goal

-- the first descriptors are written, and the cursor is at the address where they end
abbrev pub invariant-loop-next : goal.invariant-loop-next
invariant-loop-next l =
    let rs = l.fn.table.records in
    record {
      order : l.from ≤ l.cursor.index;
      cursor : IsAt rs l.cursor l.next;
      room : l.count ≤ 512;
      written : (blocks : List (List ℕ)) → AreWritten (contents_of rs blocks) l.capacity l.lba
          (answer_of l.fn.cut) (answer_of l.cut) l.count l.next;
      table : l.table ≡ visited l.fn.table (l.cursor.index - l.from + ahead l.cursor.next);
    }

abbrev pub decreases-loop-next : goal.decreases-loop-next
decreases-loop-next l = 512 - l.count
