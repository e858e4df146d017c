use Rattle.std.proofs.Common.{ℕ, List, length, ap, sym, subst, ◌∙◌, arith}
use Rattle.std.proofs.lemmas.List.{length-replicate}
use Rattle.std.proofs.lemmas.List.Elements.{All-nil}
use Rattle.sg_store.specs.Disk.{IsWellFormed, zero_block}
use Rattle.sg_store.proofs.WellFormedLemmas.{well_formed-empty}
use Rattle.sg_pool.specs.MappedRecords.{contents_of}
use Rattle.sg_pool.proofs.ConsistencyLemmas.{consistent-empty}
use Rattle.sg_table.specs.Table.{Table}
use Rattle.sg_extent_map.specs.Extents.{singles, AreExtents, IsExtent}
use Rattle.sg_extent_map.proofs.SinglesLemmas.{singles-none}
use Rattle.sg_extent_map.proofs.extent_map.ExtentMapStore.make.Goals as goal

-- no address is mapped yet
pub invariant_of-result-clause-well_formed : goal.invariant_of-result-clause-well_formed
invariant_of-result-clause-well_formed c =
    subst (IsWellFormed _)
    (sym
    (ap (λ (t : Table). contents_of (singles t.records) c.in_ok-new-2.field-0.blocks)
    c.in_ok-new.ensures ∙ ap (λ xs. contents_of xs c.in_ok-new-2.field-0.blocks) singles-none))
    (well_formed-empty _)

pub invariant_of-result-clause-extents : goal.invariant_of-result-clause-extents
invariant_of-result-clause-extents c =
    let pool = c.in_ok-new-2.field-0 in
    let e = c.in_ok-new-2.ensures in
    let size = ap length e.zeros ∙ length-replicate {A = List ℕ} c.args.pool zero_block in
    subst (λ (t : Table). AreExtents t.records pool t.room) (sym c.in_ok-new.ensures) (record {
      apart = omega arith;
      maximal = tt;
      extents = All-nil (IsExtent c.args.pool);
      consistent = rw singles-none (consistent-empty pool.blocks pool.free c.args.pool size e.free);
    })

pub returns-clause-disk : goal.returns-clause-disk
returns-clause-disk c =
    let pool = c.in_ok-new-2.field-0 in
    ap (λ (t : Table). record {
      capacity = c.args.capacity;
      pool = t.room;
      contents = contents_of (singles t.records) pool.blocks;
    }) c.in_ok-new.ensures
    ∙ ap (λ xs. record {
      capacity = c.args.capacity;
      pool = c.args.pool;
      contents = contents_of xs pool.blocks;
    }) singles-none
