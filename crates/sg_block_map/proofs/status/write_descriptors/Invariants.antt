use Rattle.std.proofs.Common.{◌≡◌, ◌-◌, ◌≤◌, ◌<◌, ◌⊎◌}
use Rattle.sg_wire.specs.Cut.{answer_of}
use Rattle.sg_table.specs.Records.{passed}
use Rattle.sg_pool.specs.Slots.{Slots}
use Rattle.sg_table.specs.Table.{visited}
use Rattle.sg_block_map.specs.Runs.{chained_contents}
use Rattle.sg_block_map.specs.Status.{AreFrom, AreMet, IsOver}
use Rattle.sg_store.proofs.StatusLemmas.{AreWritten}
use Rattle.sg_block_map.proofs.status.write_descriptors.Given as goal

-- the first descriptors are written, and the cursor is where they end
abbrev pub invariant-loop-next : goal.invariant-loop-next
invariant-loop-next l =
    let rs = l.fn.table.records in
    let from = l.fn.cursor.index in
    record {
      order : from ≤ l.cursor.index;
      cursor : IsOver rs l.cursor l.next;
      room : l.count ≤ 512;
      written : (slots : Slots) → AreWritten (chained_contents rs slots) l.capacity l.lba
          (answer_of l.fn.cut) (answer_of l.cut) l.count l.next;
      met : AreMet rs from l.cursor.index l.lba l.next;
      rest : ((l.next ≡ l.lba) × (from ≡ l.cursor.index)) ⊎ ((l.lba < l.next)
          × AreFrom rs l.cursor.index l.next);
      table : visited l.table (passed l.fn.cursor) ≡ visited l.fn.table (passed l.cursor);
    }

abbrev pub decreases-loop-next : goal.decreases-loop-next
decreases-loop-next l = 512 - l.count
