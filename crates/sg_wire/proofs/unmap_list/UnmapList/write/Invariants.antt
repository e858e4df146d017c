use Rattle.std.proofs.Common.{◌++◌, length, take}
use Rattle.std.specs.List.{flat_map}
use Rattle.sg_wire.specs.Cut.{Puts}
use Rattle.sg_wire.specs.UnmapListBytes.{unmap_descriptor, unmap_header}
use Rattle.sg_wire.proofs.UnmapListLemmas.{AllFit}
use Rattle.sg_wire.proofs.unmap_list.UnmapList.write.Given as goal

-- the header and the descriptors so far are put
abbrev pub invariant-loop-extent : goal.invariant-loop-extent
invariant-loop-extent l = record {
  puts : Puts l.fn.cut l.cut (unmap_header (length l.extents)
      ++ flat_map unmap_descriptor (take l.extent-index l.extents));
  fit : AllFit (take l.extent-index l.extents);
}
