use Rattle.std.proofs.Common.{sym, ◌∙◌, arith}
use Rattle.sg_extent_map.proofs.DataLemmas.{data-le, data-of-extents}
use Rattle.sg_extent_map.proofs.extent_map.ExtentMapStore.mapped.Goals as goal

pub overflow_cast-result : goal.overflow_cast-result
overflow_cast-result c =
    let s = c.args.self.now in
    record {
      fits = omega (
        arith,
        c.data_count.ensures,
        data-le s.table.records,
        s.extents.consistent.count,
        s.pool_fits,
      );
    }

pub returns : goal.returns
returns c =
    let s = c.args.self.now in
    record {
      value = c.data_count.ensures ∙ sym
          (data-of-extents s.table.records s.pool.blocks s.extents.consistent.sorted);
    }
