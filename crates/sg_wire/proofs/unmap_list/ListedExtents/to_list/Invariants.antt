use Rattle.std.proofs.Common.{◌≡◌, ◌≤◌, length}
use Rattle.sg_wire.specs.UnmapList.{first_descriptors, named_extents}
use Rattle.sg_wire.proofs.unmap_list.ListedExtents.to_list.Given as goal

-- the extents of the descriptors so far
abbrev pub invariant-loop-index : goal.invariant-loop-index
invariant-loop-index l =
    record {
      extents : l.list ≡ named_extents l.self-inside.only_with_blocks
          (first_descriptors l.self-inside.bytes.now l.index);
      count : length l.list ≤ l.index;
    }
