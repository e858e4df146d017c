use Rattle.std.proofs.Common.{◌+◌, arith, refl, ap, sym, ◌∙◌}
use Rattle.sg_table.specs.Draft.{Drafted}
use Rattle.sg_store.specs.Comparison.{compared}
use Rattle.sg_store.specs.Disk.{blocks}
use Rattle.sg_pool.specs.MappedRecords.{contents_of}
use Rattle.sg_pool.specs.Source.{joined_blocks}
use Rattle.sg_extent_map.specs.Extents.{singles}
use Rattle.sg_extent_map.proofs.OverlapLemmas.{blocks-gathered}
use Rattle.sg_extent_map.proofs.StoreLemmas.{extents-fit, gathered-charged}
use Rattle.sg_extent_map.proofs.WriteLemmas.{gathered-ahead, gathered-rest}
use Rattle.sg_extent_map.proofs.extent_map.ExtentMap.compare_with.Goals as goal

pub gather-requires-clause-room : goal.gather-requires-clause-room
gather-requires-clause-room c =
    let s = c.args.self.now in
    omega (
      arith,
      extents-fit s.table.records s.pool s.table.room s.extents,
      ap (λ (d : Drafted). d.room) s.gathered_empty,
    )

pub compare_runs-result-requires-clause-ahead : goal.compare_runs-result-requires-clause-ahead
compare_runs-result-requires-clause-ahead c =
    let s = c.args.self.now in
    let ahead = gathered-ahead s.table.records c.gather.new.gathered s.pool s.table.room
    c.args.lba (c.args.lba + c.args.count) s.extents (rw c.from.ensures at c.gather.ensures.gathered) in
    rw (c.records.ensures, s.extents.consistent.pool) ahead

pub compare_runs-result-requires-clause-rest : goal.compare_runs-result-requires-clause-rest
compare_runs-result-requires-clause-rest c =
    let s = c.args.self.now in
    let ahead = gathered-rest s.table.records c.gather.new.gathered s.pool s.table.room
    c.args.lba (c.args.lba + c.args.count) s.extents (rw c.from.ensures at c.gather.ensures.gathered) in
    rw (c.records.ensures, s.extents.consistent.pool) ahead

pub returns-clause-value : goal.returns-clause-value
returns-clause-value c =
    let s = c.args.self.now in
    c.compare_runs-result.ensures
    ∙ ap (λ xs. compared xs (joined_blocks c.args.source.now c.args.count))
    (ap (λ xs. blocks (contents_of (singles xs) s.pool.blocks) c.args.lba c.args.count)
    c.records.ensures
    ∙ sym (blocks-gathered s.table.records c.gather.new.gathered s.pool c.args.lba c.args.count
    (rw c.from.ensures at c.gather.ensures.gathered)))

pub returns-clause-costs : goal.returns-clause-costs
returns-clause-costs c =
    let s = c.args.self.now in
    gathered-charged s.table.records c.gather.new.gathered s.pool s.table.room c.args.lba
    c.args.count s.extents (rw c.from.ensures at c.gather.ensures.gathered) s.table.room s.table
    c.gather.new.table c.gather.ensures.visits c.gather.new.table refl
