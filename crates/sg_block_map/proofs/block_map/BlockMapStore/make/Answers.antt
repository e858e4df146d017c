use Rattle.std.proofs.Common.{ap, sym, subst, ◌∙◌}
use Rattle.sg_store.specs.Disk.{IsWellFormed}
use Rattle.sg_table.specs.Table.{Table}
use Rattle.sg_block_map.specs.Runs.{AreRuns, chained_contents}
use Rattle.sg_block_map.proofs.StoreLemmas.{no-runs, no-contents, new-contents}
use Rattle.sg_block_map.proofs.block_map.BlockMapStore.make.Goals as goal

-- no address is mapped yet
pub invariant_of-result-clause-well_formed : goal.invariant_of-result-clause-well_formed
invariant_of-result-clause-well_formed c =
    let pool = c.in_ok-new-2.field-0 in
    subst (IsWellFormed c.args.capacity) (sym
    (ap (λ (t : Table). chained_contents t.records pool) c.in_ok-new.ensures))
    (no-contents c.args.capacity pool)

pub invariant_of-result-clause-runs : goal.invariant_of-result-clause-runs
invariant_of-result-clause-runs c =
    let pool = c.in_ok-new-2.field-0 in
    let e = c.in_ok-new-2.ensures in
    subst (λ (t : Table). AreRuns t.records pool t.room) (sym c.in_ok-new.ensures)
    (no-runs pool c.args.pool e.blocks e.free e.next)

pub returns-clause-disk : goal.returns-clause-disk
returns-clause-disk c =
    let pool = c.in_ok-new-2.field-0 in
    ap (λ (t : Table). record {
      capacity = c.args.capacity;
      pool = t.room;
      contents = chained_contents t.records pool;
    }) c.in_ok-new.ensures
    ∙ ap (λ m. record { capacity = c.args.capacity; pool = c.args.pool; contents = m })
    (new-contents pool)
