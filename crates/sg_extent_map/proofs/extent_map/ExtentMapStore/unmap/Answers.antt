use Rattle.std.proofs.Common.{ap, arith}
use Rattle.sg_table.specs.Draft.{Drafted}
use Rattle.sg_extent_map.proofs.StoreLemmas.{extents-fit, gathered-charged}
use Rattle.sg_extent_map.proofs.extent_map.ExtentMapStore.unmap.Goals as goal

pub gather-requires-clause-room : goal.gather-requires-clause-room
gather-requires-clause-room c =
    let s = c.args.self.now in
    omega (
      arith,
      extents-fit s.table.records s.pool s.table.room s.extents,
      ap (λ (d : Drafted). d.room) s.gathered_empty,
    )

pub returns-clause-costs : goal.returns-clause-costs
returns-clause-costs c =
    let s = c.args.self.now in
    gathered-charged s.table.records c.gather.new.gathered s.pool s.table.room c.args.lba
    c.args.count s.extents c.gather.ensures.gathered s.table.room s.table
    c.gather.new.table c.gather.ensures.visits c.unmap_range.new.table
    c.unmap_range.ensures.changes.table
