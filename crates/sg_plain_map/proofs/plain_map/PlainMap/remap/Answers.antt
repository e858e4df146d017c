use Rattle.std.proofs.Common.{◌≡◌, ◌-◌, arith, ap, sym, subst, ◌∙◌}
use Rattle.sg_store.specs.Disk.{IsWellFormed}
use Rattle.sg_plain_map.specs.Editing.{stored}
use Rattle.sg_pool.specs.MappedRecords.{contents_of}
use Rattle.sg_pool.specs.Content.{mapping_for}
use Rattle.sg_table.specs.Table.{Table, probed}
use Rattle.sg_plain_map.proofs.RangeLemmas.{len-after, used_between}
use Rattle.sg_plain_map.proofs.plain_map.PlainMap.remap.Goals as goal

pub returns-then-count-free_count-clause-space : goal.returns-then-count-free_count-clause-space
returns-then-count-free_count-clause-space c =
    let s = c.args.self.now in
    let to = rw (c.lower_bound-from.ensures.table, c.from.ensures) at c.lower_bound-to.ensures.index in
    let e = len-after s.table.records s.pool.blocks s.pool.free s.table.room
    c.lower_bound-from.result c.lower_bound-to.result c.args.lba c.args.count
    (mapping_for c.args.content.now) s.consistent c.lower_bound-from.ensures.index to in
    (λ _. omega (arith, c.if-count-free_count.true, c.free_count.ensures), λ _. cc)

pub put_range-requires-clause-free : goal.put_range-requires-clause-free
put_range-requires-clause-free c =
    let s = c.args.self.now in
    let to = rw (c.lower_bound-from.ensures.table, c.from.ensures) at c.lower_bound-to.ensures.index in
    let e = used_between s.table.records s.pool.blocks c.lower_bound-from.result
    c.lower_bound-to.result c.args.lba c.args.count s.consistent.sorted
    c.lower_bound-from.ensures.index to in
    rw (c.lower_bound-to.ensures.table, c.lower_bound-from.ensures.table)
    (omega (arith, c.if-count-free_count.false, c.free_count.ensures))

pub returns-clause-space : goal.returns-clause-space
returns-clause-space c =
    let s = c.args.self.now in
    let to = rw (c.lower_bound-from.ensures.table, c.from.ensures) at c.lower_bound-to.ensures.index in
    let e = len-after s.table.records s.pool.blocks s.pool.free s.table.room
    c.lower_bound-from.result c.lower_bound-to.result c.args.lba c.args.count
    (mapping_for c.args.content.now) s.consistent c.lower_bound-from.ensures.index to in
    (λ wrong. cc, λ more. absurd (omega (arith, c.if-count-free_count.false, c.free_count.ensures, more)))

-- the replaced addresses are on the disk, and their blocks are whole
pub invariant_of-self-2-clause-well_formed : goal.invariant_of-self-2-clause-well_formed
invariant_of-self-2-clause-well_formed c =
    let map = c.args.self.now in
    let same : stored c.lower_bound-to.new.table map.pool ≡ stored map.table map.pool =
    ap (λ (t : Table). contents_of t.records map.pool.blocks)
    (c.lower_bound-to.ensures.table
    ∙ ap
    (λ (t : Table). probed t
    (c.lower_bound-to.new.table.probes - c.lower_bound-from.new.table.probes))
    c.lower_bound-from.ensures.table) in
    let before = subst (IsWellFormed map.capacity) (sym same) map.well_formed in
    subst (IsWellFormed map.capacity) (sym c.put_range.ensures.contents)
    (c.disks_stay_well_formed.ensures.mapping map.capacity _ c.args.lba c.args.count
    (mapping_for c.args.content.now) before c.requires.range c.requires.whole)
