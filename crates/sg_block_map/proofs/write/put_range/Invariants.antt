use Rattle.std.proofs.Common.{◌≡◌, ◌+◌, ◌≤◌, ◌++◌, ◌∷◌, take, drop, length}
use Rattle.std.specs.Prelude.{option_to_list}
use Rattle.sg_store.specs.Disk.{remapped}
use Rattle.sg_pool.specs.Content.{kind_for, mapping_for}
use Rattle.sg_block_map.specs.Gathering.{AreNear, end_index}
use Rattle.sg_block_map.specs.Joining.{IsWriting, KeepSlots}
use Rattle.sg_block_map.specs.Runs.{chained_contents, blocks_of}
use Rattle.sg_block_map.specs.Walking.{ahead_of}
use Rattle.sg_block_map.proofs.write.put_range.Given as goal

-- the blocks so far are written
abbrev pub invariant-loop-i : goal.invariant-loop-i
invariant-loop-i l =
    let rs = l.fn.table.records in
    let old = l.fn.pool in
    let before = take l.gathered.from rs ++ option_to_list l.front in
    let after = drop (end_index l.gathered) rs in
    let ahead = ahead_of l.gathered.records l.progress.walk.run l.progress.walk.at in
    record {
      writing : IsWriting before l.progress.done (ahead ++ after) l.pool (l.lba + l.i);
      contents : chained_contents (before ++ l.progress.done ∷ (ahead ++ after)) l.pool ≡
          remapped (chained_contents rs old) l.lba l.i
          (mapping_for l.content);
      keeps : KeepSlots old.next rs l.pool.next (before ++ l.progress.done ∷ (ahead ++ after));
      near : AreNear 0 (l.lba + l.count) ahead;
      start : l.progress.done.start ≤ l.lba;
      kind : l.progress.done.kind ≡ kind_for l.content;
      length : length l.pool.next ≡ length old.next;
      rise : old.links ≤ l.pool.links;
      links : l.pool.links + blocks_of ahead ≤ old.links + blocks_of l.gathered.records;
    }
