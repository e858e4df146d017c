use Rattle.std.proofs.Common.{◌+◌, sym, ◌∙◌, arith}
use Rattle.sg_store.specs.Disk.{max_capacity}
use Rattle.sg_block_map.proofs.RunSlotLemmas.{blocks-fit}
use Rattle.sg_block_map.proofs.DataLemmas.{data-le, data-of-runs}
use Rattle.sg_block_map.proofs.MaximalLemmas.{runs-addresses}
use Rattle.sg_block_map.proofs.block_map.BlockMapStore.mapped.Goals as goal

pub overflow_cast-result : goal.overflow_cast-result
overflow_cast-result c =
    let s = c.args.self.now in
    omega (
      arith,
      c.data_count.ensures,
      data-le s.table.records,
      blocks-fit s.table.records s.pool s.table.room s.runs,
      s.pool_fits,
    )

pub returns-clause-value : goal.returns-clause-value
returns-clause-value c =
    let s = c.args.self.now in
    c.data_count.ensures ∙ sym (data-of-runs s.pool.next s.table.records s.pool.blocks 0
    (max_capacity + 1) s.runs.maximal)

pub returns-clause-records : goal.returns-clause-records
returns-clause-records c =
    let s = c.args.self.now in
    sym (runs-addresses s.pool.next s.table.records s.pool.blocks 0
    (max_capacity + 1) s.runs.maximal)
