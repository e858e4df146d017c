use Rattle.std.proofs.Common.{◌≡◌, ◌-◌, []}
use Rattle.std.specs.List.{splice}
use Rattle.sg_pool.specs.MappedRecords.{IsConsistent}
use Rattle.sg_table.specs.Table.{visited}
use Rattle.sg_plain_map.specs.Editing.{AreSingle}
use Rattle.sg_plain_map.proofs.unmap.unmap_records.Given as goal

-- the slots of the records so far are free
abbrev pub invariant-loop-index : goal.invariant-loop-index
invariant-loop-index l = record {
  table : l.table ≡ visited l.fn.table (l.index - l.from);
  single : AreSingle (splice l.fn.table.records l.from l.index []);
  consistent : IsConsistent (splice l.fn.table.records l.from l.index []) l.pool.blocks l.pool.free
      l.fn.table.room;
  blocks : l.pool.blocks ≡ l.fn.pool.blocks;
}
