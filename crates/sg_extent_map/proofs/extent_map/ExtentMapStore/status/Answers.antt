use Rattle.std.proofs.Common.{ap, arith}
use Rattle.sg_store.specs.LbaStatus.{covered, lba_status}
use Rattle.sg_table.specs.Table.{Table}
use Rattle.sg_extent_map.specs.State.{disk_of}
use Rattle.sg_store.proofs.StatusLemmas.{header-within, header-replaced}
use Rattle.sg_table.proofs.TableLemmas.{ahead-le}
use Rattle.sg_extent_map.proofs.StatusLemmas.{extent_table-of, visits-joined, used-some}
use Rattle.sg_extent_map.proofs.extent_map.ExtentMapStore.status.Goals as goal

pub cursor_over-cursor-requires-clause-table : goal.cursor_over-cursor-requires-clause-table
cursor_over-cursor-requires-clause-table c =
    let s = c.args.self.now in (
      s.capacity,
      extent_table-of s.capacity s.table.records s.pool s.table.room s.extents s.well_formed
          s.pool_fits s.capacity_fits,
    )

pub write_descriptors-count-requires-clause-table : goal.write_descriptors-count-requires-clause-table
write_descriptors-count-requires-clause-table c =
    let s = c.args.self.now in
    let same = ap (λ (t : Table). t.records) c.cursor_over-cursor.ensures.visits.table in
    rw same (extent_table-of s.capacity s.table.records s.pool s.table.room s.extents s.well_formed
    s.pool_fits s.capacity_fits)

-- all that was put before the length is known
pub replace-requires : goal.replace-requires
replace-requires c =
    let s = c.args.self.now in
    let same = ap (λ (t : Table). t.records) c.cursor_over-cursor.ensures.visits.table in
    let all = rw same at (c.write_descriptors-count.ensures.descriptors s.pool.blocks) in
    header-within c.parts_are_put_in_turn.ensures c.args.cut.now _ _ c.status_header.result
    (lba_status (disk_of s) c.args.lba) c.written-at.result c.put.ensures all.bytes
    c.written-at.ensures c.parts_are_replaced.ensures

pub returns-clause-data : goal.returns-clause-data
returns-clause-data c =
    let s = c.args.self.now in
    let same = ap (λ (t : Table). t.records) c.cursor_over-cursor.ensures.visits.table in
    let all = rw same at (c.write_descriptors-count.ensures.descriptors s.pool.blocks) in
    header-replaced c.parts_are_put_in_turn.ensures c.args.cut.now _ _ c.status_header.result
    (lba_status (disk_of s) c.args.lba) c.written-at.result c.put.ensures all.bytes
    c.written-at.ensures c.parts_are_replaced.ensures _ c.status_header-2.result
    c.write_descriptors-count.result c.status_header.ensures c.status_header-2.ensures
    all.count_is c.replace.ensures

pub returns-clause-costs : goal.returns-clause-costs
returns-clause-costs c =
    let s = c.args.self.now in
    let rs = s.table.records in
    let lba = c.args.lba in
    let count = covered (lba_status (disk_of s) lba) in
    let e = c.cursor_over-cursor.ensures.visits in
    let t = c.cursor_over-cursor.new.table in
    let u = c.write_descriptors-count.new.table in
    let same = ap (λ (x : Table). x.records) e.table in
    let f = c.write_descriptors-count.ensures in
    let most = rw same at (f.visits s.pool.blocks) in
    let probes = ap (λ (x : Table). x.probes) f.table in
    let joined = visits-joined s.table t u e.table f.table (omega (arith, e.fewest_visits)) f.rise in
    let visits = ap (λ (x : Table). x.visits) joined in
    let restarts = ap (λ (x : Table). x.restarts) joined in
    let one = ahead-le c.cursor_over-cursor.result.next in
    let some = used-some rs s.pool.blocks 0 s.capacity lba count (extent_table-of s.capacity rs s.pool
    s.table.room s.extents s.well_formed s.pool_fits s.capacity_fits).apart in
    let rise = f.rise in
    record {
      cost = record {
        visits = omega (arith, visits, rise, e.fewest_visits);
        visits_rise = omega (arith, rise, e.fewest_visits);
        probes_rise = omega (arith, probes, e.probes_rise);
        probes = omega (arith, probes, e.search);
        links_rise = omega arith;
        links = omega arith;
        restarts = restarts;
      };
      price = omega (arith, most, e.most_visits);
      least = omega (arith, rise, e.some_visit, some);
    }
