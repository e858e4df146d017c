use Rattle.std.proofs.Common.{◌≡◌, ◌+◌, ◌≤◌, ◌++◌, List, take, drop, length}
use Rattle.sg_store.specs.Disk.{remapped}
use Rattle.sg_pool.specs.MappedRecords.{contents_of}
use Rattle.sg_pool.specs.Content.{mapping_for}
use Rattle.sg_extent_map.specs.Drafting.{drafted, AreDrafted, IsMaximalDraft}
use Rattle.sg_extent_map.specs.Extents.{singles, singles_of}
use Rattle.sg_pool.specs.Rising.{AreBetween}
use Rattle.sg_table.specs.declared.run.Run.{Run}
use Rattle.sg_extent_map.specs.Gathering.{end_index}
use Rattle.sg_extent_map.specs.Walking.{ahead_of, AreAhead}
use Rattle.sg_extent_map.specs.Writing.{IsWriting}
use Rattle.sg_extent_map.proofs.write.put_range.Given as goal

-- the addresses so far are drafted with their new content
abbrev pub invariant-loop-i : goal.invariant-loop-i
invariant-loop-i l =
    let rs = l.fn.table.records in
    let room = l.fn.table.room in
    let more = ahead_of l.gathered.records l.walk.run l.walk.at in
    let before = singles (take l.gathered.from rs) ++ singles (drafted l.draft l.done) in
    let rest = singles more ++ singles (drop (end_index l.gathered) rs) in
    record {
      extents : AreDrafted room l.draft l.done;
      maximal : IsMaximalDraft l.draft l.done;
      begun : (later : List Run) × (singles (drafted l.draft l.done)
          ≡ singles_of l.initial.done ++ later);
      parts : (passed : List Run) × (singles l.gathered.records ≡ passed ++ singles more)
          × AreBetween 0 (l.lba + l.i) passed;
      ahead : AreAhead room (l.lba + l.i) more;
      writing : IsWriting before rest l.pool room (l.lba + l.i);
      contents : contents_of (before ++ rest) l.pool.blocks
          ≡ remapped (contents_of (singles rs) l.fn.pool.blocks) l.lba l.i (mapping_for l.content);
      longer : length l.draft.records ≤ l.i;
      fewer : length more ≤ length l.gathered.records;
      room : l.draft.room ≡ l.fn.draft.room;
    }
