use Rattle.std.proofs.Common.{◌+◌, arith}
use Rattle.sg_store.specs.Disk.{max_capacity}
use Rattle.sg_store.proofs.NeedLemmas.{need-used}
use Rattle.sg_block_map.specs.Runs.{chained_contents}
use Rattle.sg_block_map.proofs.RunSlotLemmas.{gathered-blocks}
use Rattle.sg_block_map.proofs.StoreLemmas.{runs-ahead, gathered-mapped, gathered-range, have-room}
use Rattle.sg_block_map.proofs.block_map.BlockMapStore.need.Goals as goal

pub gather_between-requires-clause-room : goal.gather_between-requires-clause-room
gather_between-requires-clause-room c =
    let s = c.args.self.now in
    have-room s.table s.pool s.gathered s.runs s.pool_fits s.gathered_empty

pub used_between-used-requires-clause-fits : goal.used_between-used-requires-clause-fits
used_between-used-requires-clause-fits c =
    let s = c.args.self.now in
    let lba = c.args.lba in
    let blocks = gathered-blocks s.table.records c.gather_between.new.gathered s.pool s.table.room
    lba (lba + c.args.count) (max_capacity + 1) s.runs c.gather_between.ensures.gathered in
    rw c.records.ensures (omega (arith, blocks, s.pool_fits))

pub used_between-used-requires-clause-runs : goal.used_between-used-requires-clause-runs
used_between-used-requires-clause-runs c =
    let s = c.args.self.now in
    rw c.records.ensures (runs-ahead s.table.records s.pool s.table.room
    c.gather_between.new.gathered c.args.lba c.args.count s.runs
    c.gather_between.ensures.gathered).apart

pub overflow_sub-result : goal.overflow_sub-result
overflow_sub-result c =
    let s = c.args.self.now in
    let used = gathered-mapped s.table.records s.pool s.table.room c.gather_between.new.gathered
    c.args.lba c.args.count s.runs c.gather_between.ensures.gathered in
    let value = rw c.records.ensures at c.used_between-used.ensures.value in
    let all = need-used (chained_contents s.table.records s.pool) c.args.lba c.args.count in
    omega (arith, used, value, all)

pub returns-clause-value : goal.returns-clause-value
returns-clause-value c =
    let s = c.args.self.now in
    let used = gathered-mapped s.table.records s.pool s.table.room c.gather_between.new.gathered
    c.args.lba c.args.count s.runs c.gather_between.ensures.gathered in
    let value = rw c.records.ensures at c.used_between-used.ensures.value in
    let all = need-used (chained_contents s.table.records s.pool) c.args.lba c.args.count in
    omega (arith, used, value, all)

pub returns-clause-costs : goal.returns-clause-costs
returns-clause-costs c =
    let s = c.args.self.now in
    let e = c.gather_between.ensures in
    gathered-range s.table c.gather_between.new.table s.pool s.pool s.capacity c.args.lba c.args.count
    c.gather_between.new.gathered s.runs e.gathered s.pool_fits e.visits
    (omega arith) (omega arith)
