use Rattle.std.proofs.Common.{ap, ◌∙◌}
use Rattle.sg_store.specs.Comparison.{compared}
use Rattle.sg_store.specs.Disk.{blocks}
use Rattle.sg_pool.proofs.ComparisonLemmas.{joined-repeated}
use Rattle.sg_plain_map.specs.State.{disk_of}
use Rattle.sg_plain_map.proofs.plain_map.PlainMapStore.compare_each.Goals as goal

pub returns-clause-value : goal.returns-clause-value
returns-clause-value c =
    c.compare_with.ensures.value
    ∙ ap (compared (blocks (disk_of c.args.self.now).contents c.args.lba c.args.count))
    (joined-repeated c.args.block c.args.count)
