use Rattle.std.proofs.Common.{◌≡◌, ◌+◌, ◌*◌, take}
use Rattle.sg_store.specs.Disk.{blocks, used_among}
use Rattle.sg_pool.specs.MappedRecords.{contents_of}
use Rattle.sg_table.specs.Records.{ahead}
use Rattle.sg_table.specs.Table.{visited}
use Rattle.sg_plain_map.specs.Editing.{IsAt}
use Rattle.sg_plain_map.proofs.read.read_blocks.Given as goal

-- the blocks so far are read, and the cursor is at the next address
abbrev pub invariant-loop-i : goal.invariant-loop-i
invariant-loop-i l =
    let contents = contents_of l.fn.table.records l.pool.blocks in
    record {
      cursor : IsAt l.fn.table.records l.cursor (l.lba + l.i);
      bytes : take (512 * l.i) l.bytes ≡ blocks contents l.lba l.i;
      table : l.table ≡ visited l.fn.table (used_among contents l.lba l.i + ahead l.cursor.next);
    }
