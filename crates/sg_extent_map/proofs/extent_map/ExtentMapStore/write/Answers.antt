use Rattle.sg_pool.proofs.SourceLemmas.{blocks-whole}
use Rattle.sg_extent_map.proofs.extent_map.ExtentMapStore.write.Goals as goal

pub remap-requires-clause-whole : goal.remap-requires-clause-whole
remap-requires-clause-whole c = blocks-whole c.args.bytes.now c.args.count c.requires.byte_count
