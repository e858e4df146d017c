use Rattle.std.proofs.Common.{◌≡◌, ◌+◌, ap, sym, subst, ◌∙◌, arith}
use Rattle.std.specs.FinMap as map'
use Rattle.sg_store.specs.Disk.{Contents, IsWellFormed, remapped, used_among, max_capacity}
use Rattle.sg_store.specs.Meter.{Meter}
use Rattle.sg_pool.specs.Content.{mapping_for}
use Rattle.sg_pool.specs.MappedRecords.{slot_numbers}
use Rattle.sg_table.specs.Table.{Table}
use Rattle.sg_block_map.specs.RunCost.{CostsRange}
use Rattle.sg_block_map.specs.Runs.{expanded, chained_contents}
use Rattle.sg_block_map.specs.State.{disk_of, meter_at, slot_map}
use Rattle.sg_store.proofs.DiskLemmas.{remapped-none}
use Rattle.sg_block_map.proofs.RunSlotLemmas.{gathered-blocks}
use Rattle.sg_block_map.proofs.StoreLemmas.{runs-ahead, gathered-mapped}
use Rattle.sg_block_map.proofs.StoreLemmas.{size, size-replaced}
use Rattle.sg_block_map.proofs.StoreLemmas.{have-room, gathered-range, nothing-costs}
use Rattle.sg_block_map.proofs.block_map.BlockMap.remap.Goals as goal

-- no address is written
pub returns-then-count-eq0-clause-space : goal.returns-then-count-eq0-clause-space
returns-then-count-eq0-clause-space c =
    let s = c.args.self.now in
    let was : Contents = chained_contents s.table.records s.pool in
    let f = mapping_for c.args.content.now in
    let none = ap (λ k. map'.len (remapped was c.args.lba k f)) c.if-count-eq0.true
    ∙ ap map'.len (remapped-none was c.args.lba f) in
    let all = size s.table.records s.pool s.table.room s.runs in
    (λ wrong. cc, λ more. absurd (omega arith))

pub returns-then-count-eq0-clause-ok : goal.returns-then-count-eq0-clause-ok
returns-then-count-eq0-clause-ok c =
    let s = c.args.self.now in
    let was : Contents = chained_contents s.table.records s.pool in
    let f = mapping_for c.args.content.now in
    let none = ap (λ k. remapped was c.args.lba k f) c.if-count-eq0.true
    ∙ remapped-none was c.args.lba f in
    ap (λ m. record { capacity = s.capacity; pool = s.table.room; contents = m }) (sym none)

pub returns-then-count-eq0-clause-costs : goal.returns-then-count-eq0-clause-costs
returns-then-count-eq0-clause-costs c =
    let s = c.args.self.now in
    nothing-costs (disk_of s) c.args.lba c.args.count (meter_at s.table s.pool) c.if-count-eq0.true

pub gather-requires-clause-room : goal.gather-requires-clause-room
gather-requires-clause-room c =
    let s = c.args.self.now in
    have-room s.table s.pool s.gathered s.runs s.pool_fits s.gathered_empty

pub used_between-used-requires-clause-fits : goal.used_between-used-requires-clause-fits
used_between-used-requires-clause-fits c =
    let s = c.args.self.now in
    let lba = c.args.lba in
    let blocks = gathered-blocks s.table.records c.gather.new.gathered s.pool s.table.room lba
    (lba + c.args.count)
    (max_capacity + 1) s.runs c.gather.ensures.gathered in
    rw c.records.ensures (omega (arith, blocks, s.pool_fits))

pub used_between-used-requires-clause-runs : goal.used_between-used-requires-clause-runs
used_between-used-requires-clause-runs c =
    let s = c.args.self.now in
    rw c.records.ensures (runs-ahead s.table.records s.pool s.table.room c.gather.new.gathered
    c.args.lba c.args.count
    s.runs c.gather.ensures.gathered).apart

-- there are too few slots
pub returns-then-from-free_count-clause-space : goal.returns-then-from-free_count-clause-space
returns-then-from-free_count-clause-space c =
    let s = c.args.self.now in
    let grown = size-replaced s.table.records s.pool s.table.room c.args.lba c.args.count
    (mapping_for c.args.content.now) s.runs in
    let mapped = gathered-mapped s.table.records s.pool s.table.room c.gather.new.gathered
    c.args.lba c.args.count s.runs c.gather.ensures.gathered in
    let value = rw (c.records.ensures, c.from.ensures) at c.used_between-used.ensures.value in
    (λ _. omega arith, λ _. cc)

pub returns-then-from-free_count-clause-keeps : goal.returns-then-from-free_count-clause-keeps
returns-then-from-free_count-clause-keeps c =
    let s = c.args.self.now in
    λ q slot e. ap (λ (t : Table). map'.get (slot_map t s.pool) q) c.gather.ensures.visits.table ∙ e

pub returns-then-from-free_count-clause-costs : goal.returns-then-from-free_count-clause-costs
returns-then-from-free_count-clause-costs c =
    let s = c.args.self.now in
    let e = c.gather.ensures in
    gathered-range s.table c.gather.new.table s.pool s.pool s.capacity c.args.lba c.args.count
    c.gather.new.gathered s.runs e.gathered s.pool_fits e.visits
    (omega arith) (omega arith)

-- there are enough
pub write_runs-requires : goal.write_runs-requires
write_runs-requires c =
    let s = c.args.self.now in
    let lba = c.args.lba in
    let count = c.args.count in
    let table = c.gather.ensures.visits.table in
    let mapped = gathered-mapped s.table.records s.pool s.table.room c.gather.new.gathered lba count
    s.runs c.gather.ensures.gathered in
    let value = rw (c.records.ensures, c.from.ensures) at c.used_between-used.ensures.value in
    let same = ap (λ (t : Table). used_among (chained_contents t.records s.pool) lba count) table in
    record {
      ready = record {
        runs = rw table s.runs;
        gathered_runs = rw table c.gather.ensures.gathered;
        table_size = omega (arith, ap (λ (t : Table). t.room) table, s.pool_fits);
        headroom = c.requires.headroom.links;
      };
      range = (omega (arith, c.if-count-eq0.false), omega (arith, c.requires.range, s.capacity_fits));
      whole = c.requires.whole;
      free = omega arith;
    }

pub invariant_of-self-2-clause-well_formed : goal.invariant_of-self-2-clause-well_formed
invariant_of-self-2-clause-well_formed c =
    let s = c.args.self.now in
    let same : chained_contents c.gather.new.table.records s.pool ≡
    chained_contents s.table.records s.pool =
    ap (λ (t : Table). chained_contents t.records s.pool) c.gather.ensures.visits.table in
    let before = subst (IsWellFormed s.capacity) (sym same) s.well_formed in
    subst (IsWellFormed s.capacity) (sym c.write_runs.ensures.contents)
    (c.disks_stay_well_formed.ensures.mapping s.capacity _ c.args.lba c.args.count
    (mapping_for c.args.content.now) before c.requires.range c.requires.whole)

pub returns-clause-space : goal.returns-clause-space
returns-clause-space c =
    let s = c.args.self.now in
    let grown = size-replaced s.table.records s.pool s.table.room c.args.lba c.args.count
    (mapping_for c.args.content.now) s.runs in
    let mapped = gathered-mapped s.table.records s.pool s.table.room c.gather.new.gathered
    c.args.lba c.args.count s.runs c.gather.ensures.gathered in
    let value = rw (c.records.ensures, c.from.ensures) at c.used_between-used.ensures.value in
    (λ wrong. cc, λ more. absurd (omega arith))

pub returns-clause-keeps : goal.returns-clause-keeps
returns-clause-keeps c =
    let s = c.args.self.now in
    λ q slot e. c.write_runs.ensures.keeps q slot
    (ap (λ (t : Table). map'.get (slot_numbers (expanded s.pool.next t.records)) q)
    c.gather.ensures.visits.table ∙ e)

pub returns-clause-costs : goal.returns-clause-costs
returns-clause-costs c =
    let s = c.args.self.now in
    let e = c.gather.ensures in
    let pool = c.write_runs.new.pool in
    subst (λ (m : Meter). CostsRange (disk_of s) c.args.lba c.args.count (meter_at s.table s.pool) m)
    (sym (ap (λ t. meter_at t pool) c.write_runs.ensures.table.table))
    (gathered-range s.table c.gather.new.table s.pool pool s.capacity c.args.lba c.args.count
    c.gather.new.gathered s.runs e.gathered s.pool_fits e.visits
    c.write_runs.ensures.links.links_rise c.write_runs.ensures.links.most_links)
