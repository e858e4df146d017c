use Rattle.std.proofs.Common.{arith}
use Rattle.sg_extent_map.proofs.StoreLemmas.{size}
use Rattle.sg_extent_map.proofs.extent_map.ExtentMapStore.used.Goals as goal

pub returns-clause-value : goal.returns-clause-value
returns-clause-value c =
    let s = c.args.self.now in
    let all = size s.table.records s.pool s.table.room s.extents in
    omega (arith, all, c.count.ensures, c.free_count.ensures, s.extents.consistent.pool)
