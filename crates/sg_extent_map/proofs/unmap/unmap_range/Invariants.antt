use Rattle.std.proofs.Common.{◌≡◌, ◌-◌, ◌++◌, take, drop}
use Rattle.std.proofs.Common.{length, ◌*◌, ◌≤◌}
use Rattle.sg_store.specs.Disk.{max_capacity}
use Rattle.sg_pool.specs.MappedRecords.{outside_records, IsConsistent}
use Rattle.sg_extent_map.specs.Drafting.{drafted, AreDrafted, IsMaximalDraft}
use Rattle.sg_extent_map.specs.Extents.{singles}
use Rattle.sg_pool.specs.Rising.{AreBetween}
use Rattle.sg_extent_map.specs.Gathering.{end_index}
use Rattle.sg_extent_map.proofs.unmap.unmap_range.Given as goal

-- the extents so far are cut: what is left of them is drafted
abbrev pub invariant-loop-i : goal.invariant-loop-i
invariant-loop-i l =
    let rs = l.fn.table.records in
    let room = l.fn.table.room in
    let left = singles (drafted l.draft l.done) in
    let all = singles (take l.gathered.from rs)
    ++ (left ++ (singles (drop l.i l.gathered.records) ++ singles (drop (end_index l.gathered) rs)))
    in
    record {
      drafted : AreDrafted room l.draft l.done;
      maximal : IsMaximalDraft l.draft l.done;
      consistent : IsConsistent all l.pool.blocks l.pool.free room;
      between : AreBetween 0 max_capacity all;
      outside : left ≡ outside_records (singles (take l.i l.gathered.records)) l.low (l.high - l.low);
      blocks : l.pool.blocks ≡ l.fn.pool.blocks;
      longer : length l.draft.records ≤ 2 * l.i;
      room : l.draft.room ≡ l.fn.draft.room;
    }
