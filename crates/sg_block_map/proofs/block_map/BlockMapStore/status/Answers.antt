use Rattle.std.proofs.Common.{◌≤◌, ap, refl, arith}
use Rattle.sg_store.specs.LbaStatus.{covered, lba_status}
use Rattle.sg_table.specs.Table.{Table}
use Rattle.sg_block_map.specs.State.{disk_of}
use Rattle.sg_store.proofs.StatusLemmas.{header-within, header-replaced}
use Rattle.sg_table.proofs.TableLemmas.{ahead-le}
use Rattle.sg_block_map.proofs.StatusLemmas.{run_table-of, visits-joined}
use Rattle.sg_block_map.proofs.MeetingLemmas.{meet-records}
use Rattle.sg_block_map.proofs.StoreLemmas.{gathered-costs, gathered-runs}
use Rattle.sg_block_map.proofs.block_map.BlockMapStore.status.Goals as goal

pub cursor_over-cursor-requires-clause-table : goal.cursor_over-cursor-requires-clause-table
cursor_over-cursor-requires-clause-table c =
    let s = c.args.self.now in (
      s.capacity,
      run_table-of s.capacity s.table.records s.pool s.table.room s.runs s.well_formed
          s.pool_fits s.capacity_fits,
    )

pub write_descriptors-count-requires-clause-table : goal.write_descriptors-count-requires-clause-table
write_descriptors-count-requires-clause-table c =
    let s = c.args.self.now in
    let same = ap (λ (t : Table). t.records) c.cursor_over-cursor.ensures.visits.table in
    rw same (run_table-of s.capacity s.table.records s.pool s.table.room s.runs s.well_formed
    s.pool_fits s.capacity_fits)

-- all that was put before the length is known
pub replace-requires : goal.replace-requires
replace-requires c =
    let s = c.args.self.now in
    let same = ap (λ (t : Table). t.records) c.cursor_over-cursor.ensures.visits.table in
    let all = rw same at (c.write_descriptors-count.ensures.descriptors s.pool) in
    header-within c.parts_are_put_in_turn.ensures c.args.cut.now _ _ c.status_header.result
    (lba_status (disk_of s) c.args.lba) c.written-at.result c.put.ensures all.bytes
    c.written-at.ensures c.parts_are_replaced.ensures

pub returns-clause-data : goal.returns-clause-data
returns-clause-data c =
    let s = c.args.self.now in
    let same = ap (λ (t : Table). t.records) c.cursor_over-cursor.ensures.visits.table in
    let all = rw same at (c.write_descriptors-count.ensures.descriptors s.pool) in
    header-replaced c.parts_are_put_in_turn.ensures c.args.cut.now _ _ c.status_header.result
    (lba_status (disk_of s) c.args.lba) c.written-at.result c.put.ensures all.bytes
    c.written-at.ensures c.parts_are_replaced.ensures _ c.status_header-2.result
    c.write_descriptors-count.result c.status_header.ensures c.status_header-2.ensures
    all.count_is c.replace.ensures

pub returns-clause-costs : goal.returns-clause-costs
returns-clause-costs c =
    let s = c.args.self.now in
    let lba = c.args.lba in
    let count = covered (lba_status (disk_of s) lba) in
    let e = c.cursor_over-cursor.ensures.visits in
    let t = c.cursor_over-cursor.new.table in
    let u = c.write_descriptors-count.new.table in
    let same = ap (λ (x : Table). x.records) e.table in
    let f = c.write_descriptors-count.ensures in
    let fewest = rw same at (f.visits s.pool).fewest_visits in
    let most = rw same at (f.visits s.pool).most_visits in
    let probes = ap (λ (x : Table). x.probes) f.table in
    let total : s.table.total ≤ u.total = omega (arith, e.between.fewest_visits, fewest) in
    let rise : s.table.probes ≤ u.probes = omega (arith, probes, e.probes_rise) in
    let joined = visits-joined s.table t u e.table f.table (omega (arith, e.between.fewest_visits))
    (omega (arith, fewest)) in
    let met = meet-records s.table.records s.pool s.table.room lba count s.runs in
    let one = ahead-le c.cursor_over-cursor.result.next in
    record {
      charge = record {
        cost = gathered-costs s.table.records s.pool s.pool s.table.room lba count s.table u s.runs
            refl joined rise (rw probes e.search) total s.pool_fits (omega arith) (omega arith);
        price = omega (arith, most, e.between.most_visits, met, one);
        least = omega (arith, fewest, e.between.fewest_visits, met, one);
      };
      runs = gathered-runs s.table.records s.pool s.pool s.table.room lba count s.table u s.runs
          refl joined rise (rw probes e.search) total (omega arith);
    }
