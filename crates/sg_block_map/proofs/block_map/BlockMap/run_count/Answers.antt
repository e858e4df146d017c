use Rattle.std.proofs.Common.{◌+◌, length, ap, sym, ◌∙◌}
use Rattle.std.proofs.lemmas.List.{length-map}
use Rattle.sg_store.specs.Disk.{max_capacity}
use Rattle.sg_block_map.specs.Runs.{address_run}
use Rattle.sg_block_map.proofs.MaximalLemmas.{runs-addresses}
use Rattle.sg_block_map.proofs.block_map.BlockMap.run_count.Goals as goal

pub returns-clause-records : goal.returns-clause-records
returns-clause-records c =
    let s = c.args.self.now in
    sym (runs-addresses s.pool.next s.table.records s.pool.blocks 0
    (max_capacity + 1) s.runs.maximal)

pub returns-clause-count : goal.returns-clause-count
returns-clause-count c =
    let s = c.args.self.now in
    c.count.ensures.value
    ∙ sym (ap length (runs-addresses s.pool.next s.table.records s.pool.blocks 0
    (max_capacity + 1) s.runs.maximal) ∙ length-map s.table.records address_run)
