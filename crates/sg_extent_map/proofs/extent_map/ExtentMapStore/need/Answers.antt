use Rattle.std.proofs.Common.{ap, ◌+◌, arith, refl}
use Rattle.sg_table.specs.Draft.{Drafted}
use Rattle.sg_extent_map.proofs.StoreLemmas.{extents-fit, need-there, gathered-charged}
use Rattle.sg_extent_map.proofs.WriteLemmas.{gathered-ahead}
use Rattle.sg_extent_map.proofs.extent_map.ExtentMapStore.need.Goals as goal

pub gather-requires-clause-room : goal.gather-requires-clause-room
gather-requires-clause-room c =
    let s = c.args.self.now in
    omega (
      arith,
      extents-fit s.table.records s.pool s.table.room s.extents,
      ap (λ (d : Drafted). d.room) s.gathered_empty,
    )

pub used_between-used-requires : goal.used_between-used-requires
used_between-used-requires c =
    let s = c.args.self.now in
    rw c.records.ensures (gathered-ahead s.table.records c.gather.new.gathered s.pool s.table.room
    c.args.lba (c.args.lba + c.args.count) s.extents c.gather.ensures.gathered).apart

pub overflow_sub-result : goal.overflow_sub-result
overflow_sub-result c =
    let s = c.args.self.now in
    let all = need-there s.table.records c.gather.new.gathered s.pool s.table.room c.args.lba
    c.args.count s.extents c.gather.ensures.gathered in
    let value = rw c.records.ensures at c.used_between-used.ensures.value in
    omega (arith, all, value)

pub returns-clause-value : goal.returns-clause-value
returns-clause-value c =
    let s = c.args.self.now in
    let all = need-there s.table.records c.gather.new.gathered s.pool s.table.room c.args.lba
    c.args.count s.extents c.gather.ensures.gathered in
    let value = rw c.records.ensures at c.used_between-used.ensures.value in
    omega (arith, all, value)

pub returns-clause-costs : goal.returns-clause-costs
returns-clause-costs c =
    let s = c.args.self.now in
    gathered-charged s.table.records c.gather.new.gathered s.pool s.table.room c.args.lba
    c.args.count s.extents c.gather.ensures.gathered s.table.room s.table c.gather.new.table
    c.gather.ensures.visits c.gather.new.table refl
