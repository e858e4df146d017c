use Rattle.std.proofs.Common.{◌+◌, sym, arith}
use Rattle.sg_store.specs.Disk.{max_capacity}
use Rattle.sg_block_map.proofs.MaximalLemmas.{runs-addresses}
use Rattle.sg_block_map.proofs.StoreLemmas.{size}
use Rattle.sg_block_map.proofs.block_map.BlockMapStore.used.Goals as goal

pub returns-clause-value : goal.returns-clause-value
returns-clause-value c =
    let s = c.args.self.now in
    let all = size s.table.records s.pool s.table.room s.runs in
    omega (arith, c.count.ensures, c.free_count.ensures, s.runs.consistent.pool)

pub returns-clause-records : goal.returns-clause-records
returns-clause-records c =
    let s = c.args.self.now in
    sym (runs-addresses s.pool.next s.table.records s.pool.blocks 0
    (max_capacity + 1) s.runs.maximal)
