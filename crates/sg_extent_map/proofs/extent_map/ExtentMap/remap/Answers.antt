use Rattle.std.proofs.Common.{◌+◌, arith, ap, refl}
use Rattle.sg_table.specs.Draft.{Drafted}
use Rattle.sg_table.specs.Table.{Table}
use Rattle.sg_pool.specs.Content.{mapping_for}
use Rattle.sg_extent_map.proofs.StoreLemmas.{extents-fit, size-after, used-there}
use Rattle.sg_extent_map.proofs.StoreLemmas.{gathered-cost, gathered-price, gathered-least}
use Rattle.sg_extent_map.proofs.WriteLemmas.{gathered-ahead}
use Rattle.sg_extent_map.proofs.extent_map.ExtentMap.remap.Goals as goal

pub gather-requires-clause-room : goal.gather-requires-clause-room
gather-requires-clause-room c =
    let s = c.args.self.now in
    omega (
      arith,
      extents-fit s.table.records s.pool s.table.room s.extents,
      ap (λ (d : Drafted). d.room) s.gathered_empty,
    )

pub used_between-used-requires : goal.used_between-used-requires
used_between-used-requires c =
    let s = c.args.self.now in
    rw c.records.ensures (gathered-ahead s.table.records c.gather.new.gathered s.pool s.table.room
    c.args.lba (c.args.lba + c.args.count) s.extents (rw c.from.ensures at c.gather.ensures.gathered)).apart

pub returns-then-from-used-clause-space : goal.returns-then-from-used-clause-space
returns-then-from-used-clause-space c =
    let s = c.args.self.now in
    let lba = c.args.lba in
    let count = c.args.count in
    let rs = s.table.records in
    let g = c.gather.new.gathered in
    let near = rw c.from.ensures at c.gather.ensures.gathered in
    let used = used-there rs g s.pool s.table.room lba count s.extents near in
    let value = rw (c.records.ensures, c.from.ensures) at c.used_between-used.ensures.value in
    let all = size-after rs s.pool s.table.room lba count (mapping_for c.args.content.now) s.extents in (
      λ _. omega (
        arith,
        used,
        value,
        all,
        c.if-from-used.true,
        c.free_count.ensures,
        c.from-2.ensures,
        c.from-3.ensures,
      ),
      λ _. refl,
    )

pub returns-then-from-used-clause-costs : goal.returns-then-from-used-clause-costs
returns-then-from-used-clause-costs c =
    let s = c.args.self.now in
    let lba = c.args.lba in
    let count = c.args.count in
    let rs = s.table.records in
    let g = c.gather.new.gathered in
    let near = rw c.from.ensures at c.gather.ensures.gathered in
    let used = used-there rs g s.pool s.table.room lba count s.extents near in
    let value = rw (c.records.ensures, c.from.ensures) at c.used_between-used.ensures.value in
    record {
      cost = gathered-cost rs g s.pool s.table.room lba count s.extents near s.table.room s.table
          c.gather.new.table c.gather.ensures.visits c.gather.new.table refl;
      price = gathered-price rs g s.pool s.table.room lba count s.extents near s.table.room s.table
          c.gather.new.table c.gather.ensures.visits c.gather.new.table refl;
      least = tt;
    }

pub put_range-requires-clause-free : goal.put_range-requires-clause-free
put_range-requires-clause-free c =
    let s = c.args.self.now in
    let lba = c.args.lba in
    let count = c.args.count in
    let rs = s.table.records in
    let g = c.gather.new.gathered in
    let near = rw c.from.ensures at c.gather.ensures.gathered in
    let used = used-there rs g s.pool s.table.room lba count s.extents near in
    let value = rw (c.records.ensures, c.from.ensures) at c.used_between-used.ensures.value in
    let same = ap (λ (t : Table). t.records) c.gather.ensures.visits.table in
    rw same (omega (
      arith,
      used,
      value,
      c.if-from-used.false,
      c.free_count.ensures,
      c.from-2.ensures,
      c.from-3.ensures,
    ))

pub returns-clause-space : goal.returns-clause-space
returns-clause-space c =
    let s = c.args.self.now in
    let lba = c.args.lba in
    let count = c.args.count in
    let rs = s.table.records in
    let g = c.gather.new.gathered in
    let near = rw c.from.ensures at c.gather.ensures.gathered in
    let used = used-there rs g s.pool s.table.room lba count s.extents near in
    let value = rw (c.records.ensures, c.from.ensures) at c.used_between-used.ensures.value in
    let all = size-after rs s.pool s.table.room lba count (mapping_for c.args.content.now) s.extents in (
      λ wrong. let no = wrong in cc,
      λ more. absurd (omega (
        arith,
        used,
        value,
        all,
        more,
        c.if-from-used.false,
        c.free_count.ensures,
        c.from-2.ensures,
        c.from-3.ensures,
      )),
    )

pub returns-clause-costs : goal.returns-clause-costs
returns-clause-costs c =
    let s = c.args.self.now in
    let lba = c.args.lba in
    let count = c.args.count in
    let rs = s.table.records in
    let g = c.gather.new.gathered in
    let near = rw c.from.ensures at c.gather.ensures.gathered in
    let used = used-there rs g s.pool s.table.room lba count s.extents near in
    let value = rw (c.records.ensures, c.from.ensures) at c.used_between-used.ensures.value in
    let changed = c.put_range.ensures.changes.table in
    record {
      cost = gathered-cost rs g s.pool s.table.room lba count s.extents near s.table.room s.table
          c.gather.new.table c.gather.ensures.visits c.put_range.new.table changed;
      price = gathered-price rs g s.pool s.table.room lba count s.extents near s.table.room s.table
          c.gather.new.table c.gather.ensures.visits c.put_range.new.table changed;
      least = gathered-least rs g s.pool s.table.room lba count s.extents near s.table.room s.table
          c.gather.new.table c.gather.ensures.visits c.put_range.new.table changed;
    }
