use Rattle.std.proofs.Common.{◌≡◌, ◌+◌, ◌++◌, List, length}
use Rattle.sg_store.specs.Disk.{blocks}
use Rattle.sg_pool.specs.MappedRecords.{contents_of}
use Rattle.sg_pool.specs.Rising.{AreBetween}
use Rattle.sg_pool.specs.Source.{joined_blocks}
use Rattle.sg_table.specs.declared.run.Run.{Run}
use Rattle.sg_extent_map.specs.Extents.{singles}
use Rattle.sg_extent_map.specs.Walking.{ahead_of, AreAhead}
use Rattle.sg_extent_map.proofs.compare.compare_runs.Given as goal

-- the blocks so far are those of the source, and the extents ahead have the others
abbrev pub invariant-loop-i : goal.invariant-loop-i
invariant-loop-i l =
    let more = ahead_of l.runs l.walk.run l.walk.at in
    record {
      ahead : AreAhead (length l.pool.blocks) (l.lba + l.i) more;
      parts : (passed : List Run) × (singles l.runs ≡ passed ++ singles more)
          × AreBetween 0 (l.lba + l.i) passed;
      same : blocks (contents_of (singles l.runs) l.pool.blocks) l.lba l.i ≡ joined_blocks l.source l.i;
    }
