use Rattle.sg_wire.specs.UnmapList.{first_descriptors}
use Rattle.sg_wire.proofs.NamedExtentLemmas.{named_twice}
use Rattle.sg_wire.proofs.unmap_list.ListedExtents.named.Goals as goal

pub returns : goal.returns
returns c =
    let listed = first_descriptors c.self.inside.bytes.now c.self.inside.count in
    rw (← c.self.view_is) (named_twice c.self.inside.only_with_blocks c.args.only_with_blocks listed)
