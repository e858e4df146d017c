use Rattle.std.proofs.Common.{◌≡◌, ◌+◌, ◌-◌, ap, ap₂, sym, subst, ◌∙◌, arith}
use Rattle.sg_store.specs.Disk.{Contents, IsWellFormed, outside_range, unmapped}
use Rattle.sg_store.specs.Meter.{Meter}
use Rattle.sg_pool.specs.MappedRecords.{SlotNumbers, contents_of, slot_number, slot_numbers}
use Rattle.sg_pool.specs.Slots.{Slots}
use Rattle.sg_table.specs.Table.{Table}
use Rattle.sg_block_map.specs.RunCost.{CostsRange}
use Rattle.sg_block_map.specs.Runs.{expanded, chained_contents}
use Rattle.sg_block_map.specs.State.{disk_of, meter_at, slot_map}
use Rattle.sg_pool.proofs.ContentsLemmas.{outside-none, unmapped-none}
use Rattle.sg_pool.proofs.MappedLemmas.{contents-outside, contents-unmapped}
use Rattle.sg_block_map.proofs.StoreLemmas.{have-room, gathered-range, nothing-costs}
use Rattle.sg_block_map.proofs.block_map.BlockMapStore.unmap.Goals as goal

-- no address is unmapped
pub returns-then-count-eq0-clause-disk : goal.returns-then-count-eq0-clause-disk
returns-then-count-eq0-clause-disk c =
    let s = c.args.self.now in
    let was : Contents = chained_contents s.table.records s.pool in
    let none = ap (unmapped was c.args.lba) c.if-count-eq0.true ∙ unmapped-none was c.args.lba in
    ap (λ m. record { capacity = s.capacity; pool = s.table.room; contents = m }) (sym none)

pub returns-then-count-eq0-clause-keeps : goal.returns-then-count-eq0-clause-keeps
returns-then-count-eq0-clause-keeps c =
    let s = c.args.self.now in
    let was : SlotNumbers = slot_map s.table s.pool in
    sym (ap (outside_range was c.args.lba) c.if-count-eq0.true ∙ outside-none was c.args.lba)

pub returns-then-count-eq0-clause-costs : goal.returns-then-count-eq0-clause-costs
returns-then-count-eq0-clause-costs c =
    let s = c.args.self.now in
    nothing-costs (disk_of s) c.args.lba c.args.count (meter_at s.table s.pool) c.if-count-eq0.true

pub gather_between-requires-clause-room : goal.gather_between-requires-clause-room
gather_between-requires-clause-room c =
    let s = c.args.self.now in
    have-room s.table s.pool s.gathered s.runs s.pool_fits s.gathered_empty

-- the runs are cut
pub unmap_runs-requires-clause-ready : goal.unmap_runs-requires-clause-ready
unmap_runs-requires-clause-ready c =
    let s = c.args.self.now in
    let table = c.gather_between.ensures.visits.table in
    record {
      runs = rw table s.runs;
      gathered_runs = rw table c.gather_between.ensures.gathered;
      table_size = omega (arith, ap (λ (t : Table). t.room) table, s.pool_fits);
      headroom = c.requires.headroom.links;
    }

pub invariant_of-self-clause-well_formed : goal.invariant_of-self-clause-well_formed
invariant_of-self-clause-well_formed c =
    let s = c.args.self.now in
    let rs = s.table.records in
    let lba = c.args.lba in
    let count = c.args.count in
    let after = c.unmap_runs.new in
    let is : chained_contents after.table.records c.renew_slots.new.pool ≡
    unmapped (chained_contents rs s.pool) lba count =
    ap (chained_contents after.table.records) c.renew_slots.ensures.pool
    ∙ ap (contents_of (expanded after.pool.next after.table.records)) c.unmap_runs.ensures.blocks
    ∙ ap (λ zs. contents_of zs s.pool.blocks) c.unmap_runs.ensures.records
    ∙ contents-unmapped (expanded s.pool.next c.gather_between.new.table.records) s.pool.blocks lba
    (lba + count - lba)
    ∙ ap (λ (t : Table). unmapped (chained_contents t.records s.pool) lba
    (lba + count - lba)) c.gather_between.ensures.visits.table
    ∙ ap (unmapped (chained_contents rs s.pool) lba) (omega arith) in
    subst (IsWellFormed s.capacity) (sym is) (c.disks_stay_well_formed.ensures.unmapping s.capacity
    (chained_contents rs s.pool) lba count s.well_formed)

pub returns-clause-disk : goal.returns-clause-disk
returns-clause-disk c =
    let s = c.args.self.now in
    let rs = s.table.records in
    let lba = c.args.lba in
    let count = c.args.count in
    let after = c.unmap_runs.new in
    let is : chained_contents after.table.records c.renew_slots.new.pool ≡
    unmapped (chained_contents rs s.pool) lba count =
    ap (chained_contents after.table.records) c.renew_slots.ensures.pool
    ∙ ap (contents_of (expanded after.pool.next after.table.records)) c.unmap_runs.ensures.blocks
    ∙ ap (λ zs. contents_of zs s.pool.blocks) c.unmap_runs.ensures.records
    ∙ contents-unmapped (expanded s.pool.next c.gather_between.new.table.records) s.pool.blocks lba
    (lba + count - lba)
    ∙ ap (λ (t : Table). unmapped (chained_contents t.records s.pool) lba
    (lba + count - lba)) c.gather_between.ensures.visits.table
    ∙ ap (unmapped (chained_contents rs s.pool) lba) (omega arith) in
    let room = ap (λ (t : Table). t.room) c.unmap_runs.ensures.table.table
    ∙ ap (λ (t : Table). t.room) c.gather_between.ensures.visits.table in
    ap₂ (λ r m. record { capacity = s.capacity; pool = r; contents = m }) room is

pub returns-clause-keeps : goal.returns-clause-keeps
returns-clause-keeps c =
    let s = c.args.self.now in
    let lba = c.args.lba in
    let count = c.args.count in
    let after = c.unmap_runs.new in
    ap (λ (p : Slots). slot_numbers (expanded p.next after.table.records)) c.renew_slots.ensures.pool
    ∙ ap slot_numbers c.unmap_runs.ensures.records
    ∙ contents-outside slot_number (expanded s.pool.next c.gather_between.new.table.records) lba
    (lba + count - lba)
    ∙ ap (λ (t : Table). outside_range (slot_numbers (expanded s.pool.next t.records)) lba
    (lba + count - lba)) c.gather_between.ensures.visits.table
    ∙ ap (outside_range (slot_numbers (expanded s.pool.next s.table.records)) lba)
    (omega arith)

pub returns-clause-costs : goal.returns-clause-costs
returns-clause-costs c =
    let s = c.args.self.now in
    let e = c.gather_between.ensures in
    let pool = c.unmap_runs.new.pool in
    subst (λ (m : Meter). CostsRange (disk_of s) c.args.lba c.args.count (meter_at s.table s.pool) m)
    (sym (ap (λ p. meter_at c.unmap_runs.new.table p) c.renew_slots.ensures.pool
    ∙ ap (λ t. meter_at t pool) c.unmap_runs.ensures.table.table))
    (gathered-range s.table c.gather_between.new.table s.pool pool s.capacity c.args.lba c.args.count
    c.gather_between.new.gathered s.runs e.gathered s.pool_fits e.visits
    c.unmap_runs.ensures.links.links_rise c.unmap_runs.ensures.links.most_links)
