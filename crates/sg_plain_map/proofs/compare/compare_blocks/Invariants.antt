use Rattle.std.proofs.Common.{◌≡◌, ◌+◌}
use Rattle.sg_store.specs.Disk.{blocks, used_among}
use Rattle.sg_pool.specs.MappedRecords.{contents_of}
use Rattle.sg_pool.specs.Source.{joined_blocks}
use Rattle.sg_table.specs.Records.{ahead}
use Rattle.sg_table.specs.Table.{visited}
use Rattle.sg_plain_map.specs.Editing.{IsAt}
use Rattle.sg_plain_map.proofs.compare.compare_blocks.Given as goal

-- the blocks so far are those of the source, and the cursor is at the next address
abbrev pub invariant-loop-i : goal.invariant-loop-i
invariant-loop-i l =
    let contents = contents_of l.fn.table.records l.pool.blocks in
    record {
      cursor : IsAt l.fn.table.records l.cursor (l.lba + l.i);
      same : blocks contents l.lba l.i ≡ joined_blocks l.source l.i;
      table : l.table ≡ visited l.fn.table (used_among contents l.lba l.i + ahead l.cursor.next);
    }
