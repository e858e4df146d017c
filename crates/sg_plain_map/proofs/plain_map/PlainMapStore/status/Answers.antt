use Rattle.std.proofs.Common.{arith, ap}
use Rattle.sg_store.specs.LbaStatus.{lba_status}
use Rattle.sg_table.specs.Table.{Table}
use Rattle.sg_store.proofs.StatusLemmas.{header-within, header-replaced}
use Rattle.sg_plain_map.specs.State.{disk_of}
use Rattle.sg_plain_map.proofs.DescribedLemmas.{table-of}
use Rattle.sg_plain_map.proofs.plain_map.PlainMapStore.status.Goals as goal

pub write_descriptors-count-requires-clause-table :
    goal.write_descriptors-count-requires-clause-table
write_descriptors-count-requires-clause-table c =
    let map = c.args.self.now in
    rw c.lower_bound-from.ensures.table
    (table-of map.capacity map.table.records map.pool.blocks map.pool.free map.table.room
    map.well_formed map.consistent (omega (arith, map.pool_fits)) map.capacity_fits)

pub replace-requires : goal.replace-requires
replace-requires c =
    let map = c.args.self.now in
    let same = ap (λ (t : Table). t.records) c.lower_bound-from.ensures.table in
    let all = rw same at (c.write_descriptors-count.ensures.descriptors map.pool.blocks) in
    header-within c.parts_are_put_in_turn.ensures c.args.cut.now _ _ c.status_header.result
    (lba_status (disk_of map) c.args.lba) c.written-at.result c.put.ensures all.bytes
    c.written-at.ensures c.parts_are_replaced.ensures

pub returns-clause-data : goal.returns-clause-data
returns-clause-data c =
    let map = c.args.self.now in
    let same = ap (λ (t : Table). t.records) c.lower_bound-from.ensures.table in
    let all = rw same at (c.write_descriptors-count.ensures.descriptors map.pool.blocks) in
    header-replaced c.parts_are_put_in_turn.ensures c.args.cut.now _ _ c.status_header.result
    (lba_status (disk_of map) c.args.lba) c.written-at.result c.put.ensures all.bytes
    c.written-at.ensures c.parts_are_replaced.ensures _ c.status_header-2.result
    c.write_descriptors-count.result c.status_header.ensures c.status_header-2.ensures
    all.count_is c.replace.ensures
