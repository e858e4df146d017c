use Rattle.std.proofs.Common.{◌+◌, drop, subst}
use Rattle.sg_pool.specs.Content.{HasMappings}
use Rattle.sg_block_map.proofs.OverwriteLemmas.{first-below}
use Rattle.sg_block_map.proofs.write.write_runs.Goals as goal

-- the range lies inside one run
pub overwrite-requires-clause-below : goal.overwrite-requires-clause-below
overwrite-requires-clause-below c =
    let gathered = c.args.gathered.now in
    let run = c.in-Some.run' in
    let first = rw c.records-runs.ensures at c.in-Some.ensures.first in
    first-below c.args.table.now.records gathered c.args.pool.now c.args.table.now.room c.args.lba
    (c.args.lba + c.args.count) run (drop 1 gathered.records)
    c.requires.ready.runs c.requires.ready.gathered_runs
    first

pub overwrite-requires-clause-blocks : goal.overwrite-requires-clause-blocks
overwrite-requires-clause-blocks c =
    subst (λ content. HasMappings content c.args.count) c.in-Blocks.is c.requires.whole
