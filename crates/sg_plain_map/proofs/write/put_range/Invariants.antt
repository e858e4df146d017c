use Rattle.std.proofs.Common.{◌≡◌, ◌+◌, length, true}
use Rattle.sg_store.specs.Disk.{remapped, used_among}
use Rattle.sg_pool.specs.MappedRecords.{contents_of}
use Rattle.sg_table.specs.Records.{ahead}
use Rattle.sg_table.specs.Table.{visited}
use Rattle.sg_plain_map.specs.Editing.{IsEditing, edited, edited_contents}
use Rattle.sg_pool.specs.Content.{mapping_for}
use Rattle.sg_plain_map.proofs.write.put_range.Given as goal

-- the blocks so far are replaced, and the cursor is at the next address
abbrev pub invariant-loop-i : goal.invariant-loop-i
invariant-loop-i l =
    let t = l.fn.table in
    let was = contents_of t.records l.fn.pool.blocks in
    record {
      editing : IsEditing t.records t.room l.pool l.draft l.cursor (l.range.lba + l.i);
      contents : edited_contents t l.pool l.draft l.cursor
          ≡ remapped was l.range.lba l.i (mapping_for l.content);
      draft : (l.draft.from ≡ l.from) × (length l.draft.records ≡ l.i) × (l.draft.room ≡ t.room);
      index : l.cursor.index ≡ l.from + used_among was l.range.lba l.i;
      same : l.same ≡ true → edited t.records l.draft l.cursor ≡ t.records;
      free : length l.pool.free + l.i ≡ length l.fn.pool.free + used_among was l.range.lba l.i;
      table : l.table ≡ visited t (used_among was l.range.lba l.i + ahead l.cursor.next);
    }
