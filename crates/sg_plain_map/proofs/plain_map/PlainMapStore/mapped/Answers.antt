use Rattle.std.proofs.Common.{sym, ◌∙◌, arith}
use Rattle.sg_plain_map.proofs.CountLemmas.{data-of-records, data-le}
use Rattle.sg_plain_map.proofs.plain_map.PlainMapStore.mapped.Goals as goal

pub overflow_cast-result : goal.overflow_cast-result
overflow_cast-result c =
    let s = c.args.self.now in
    omega (
      arith,
      c.data_count.ensures,
      data-le s.table.records s.single,
      s.consistent.count,
      s.pool_fits,
    )

pub returns : goal.returns
returns c =
    let s = c.args.self.now in
    record {
      value = c.data_count.ensures
          ∙ sym (data-of-records s.table.records s.pool.blocks s.consistent.sorted s.single);
    }
