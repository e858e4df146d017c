use Rattle.std.proofs.Common.{ap, ◌∙◌}
use Rattle.sg_store.specs.Comparison.{compared}
use Rattle.sg_store.specs.Disk.{blocks}
use Rattle.sg_pool.proofs.ComparisonLemmas.{joined-bytes}
use Rattle.sg_pool.proofs.SourceLemmas.{blocks-whole}
use Rattle.sg_extent_map.specs.State.{disk_of}
use Rattle.sg_extent_map.proofs.extent_map.ExtentMapStore.compare.Goals as goal

pub compare_with-requires-clause-whole : goal.compare_with-requires-clause-whole
compare_with-requires-clause-whole c =
    blocks-whole c.args.bytes.now c.args.count c.requires.byte_count

pub returns-clause-value : goal.returns-clause-value
returns-clause-value c =
    c.compare_with.ensures.value
    ∙ ap (compared (blocks (disk_of c.args.self.now).contents c.args.lba c.args.count))
    (joined-bytes c.args.bytes c.args.count c.requires.byte_count)
