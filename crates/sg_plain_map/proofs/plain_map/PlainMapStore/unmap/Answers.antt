use Rattle.std.proofs.Common.{◌≡◌, ◌-◌, ap, sym, subst, ◌∙◌}
use Rattle.sg_store.specs.Disk.{IsWellFormed}
use Rattle.sg_plain_map.specs.Editing.{stored}
use Rattle.sg_pool.specs.MappedRecords.{contents_of}
use Rattle.sg_table.specs.Table.{Table, probed}
use Rattle.sg_plain_map.proofs.plain_map.PlainMapStore.unmap.Goals as goal

-- the addresses that stay mapped are on the disk, in whole blocks
pub invariant_of-self-clause-well_formed : goal.invariant_of-self-clause-well_formed
invariant_of-self-clause-well_formed c =
    let map = c.args.self.now in
    let same : stored c.lower_bound-to.new.table map.pool ≡ stored map.table map.pool =
    ap (λ (t : Table). contents_of t.records map.pool.blocks)
    (c.lower_bound-to.ensures.table
    ∙ ap
    (λ (t : Table). probed t
    (c.lower_bound-to.new.table.probes - c.lower_bound-from.new.table.probes))
    c.lower_bound-from.ensures.table) in
    let before = subst (IsWellFormed map.capacity) (sym same) map.well_formed in
    subst (IsWellFormed map.capacity) (sym c.unmap_records.ensures.contents)
    (c.disks_stay_well_formed.ensures.unmapping map.capacity _ c.args.lba c.args.count before)
