use Rattle.std.proofs.Common.{ap, sym, subst}
use Rattle.std.proofs.lemmas.List.Elements.{All-nil}
use Rattle.sg_store.specs.Disk.{IsWellFormed}
use Rattle.sg_pool.specs.MappedRecords.{contents_of, IsConsistent}
use Rattle.sg_pool.proofs.ConsistencyLemmas.{consistent-empty}
use Rattle.sg_table.specs.Table.{Table}
use Rattle.sg_store.proofs.WellFormedLemmas.{well_formed-empty}
use Rattle.sg_plain_map.specs.Editing.{AreSingle, IsSingle}
use Rattle.sg_plain_map.proofs.plain_map.PlainMapStore.make.Goals as goal

-- no address is mapped yet
pub invariant_of-result-clause-well_formed : goal.invariant_of-result-clause-well_formed
invariant_of-result-clause-well_formed c =
    subst (IsWellFormed _)
    (sym
    (ap (λ (t : Table). contents_of t.records c.in_ok-new-2.field-0.blocks)
    c.in_ok-new.ensures)) (well_formed-empty _)

pub invariant_of-result-clause-single : goal.invariant_of-result-clause-single
invariant_of-result-clause-single c =
    subst (λ (t : Table). AreSingle t.records) (sym c.in_ok-new.ensures) (All-nil IsSingle)

pub invariant_of-result-clause-consistent : goal.invariant_of-result-clause-consistent
invariant_of-result-clause-consistent c =
    let pool = c.in_ok-new-2.field-0 in
    let e = c.in_ok-new-2.ensures in
    subst (λ (t : Table). IsConsistent t.records pool.blocks pool.free t.room) (sym c.in_ok-new.ensures)
    (consistent-empty pool.blocks pool.free c.args.pool e.blocks e.free)
