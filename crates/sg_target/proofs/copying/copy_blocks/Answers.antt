use Rattle.std.proofs.Common.{◌≡◌, ap, arith}
use Rattle.std.specs.List.{flat_map, range_with_len}
use Rattle.sg_copy.specs.declared.copy_list.Segment.{Segment}
use Rattle.sg_store.specs.Disk.Mapping.{Data}
use Rattle.sg_target.specs.BlockByBlock.{disk_copied}
use Rattle.sg_target.specs.BlockCommands.{copied_block, destination_of}
use Rattle.sg_target.specs.Charge.{cost_bounds}
use Rattle.sg_target.specs.Ranges.{step_ranges}
use Rattle.sg_target.proofs.OrWriteLemmas.{counted-first}
use Rattle.sg_target.proofs.copying.copy_blocks.Goals as goal

pub returns-clause-costs : goal.returns-clause-costs
returns-clause-costs g c =
    let disk = g.S.Store.disk c.args.store.now in
    let s = c.args.blocks.now in
    let left = c.need-needed.ensures.disk in
    let first : c.blocks-2.inside.segment.destination ≡ s.destination =
    ap (λ (s : Segment). s.destination) c.blocks-2.view_is in
    let many : c.from.result ≡ s.blocks =
    omega (arith, c.from.ensures, ap (λ (s : Segment). s.blocks) c.blocks-2.view_is) in
    let taken = c.remapping_takes_what_is_needed.ensures.taken disk.contents s.destination s.blocks
    (λ index. Data (copied_block disk.contents s index)) in
    counted-first (cost_bounds g.S.Store.price g.S.Store.least) disk
    (g.S.Store.disk c.need-needed.new.self) (disk_copied disk s) (destination_of s)
    (λ m. flat_map (step_ranges m s) (range_with_len 0 s.blocks))
    c.blocks-2.inside.segment.destination c.from.result
    (g.S.Store.meter c.args.store.now) (g.S.Store.meter c.need-needed.new.self)
    (g.S.Store.meter c.copy_in_turn.new.store) c.requires.nothing_counted first many left
    c.need-needed.ensures.costs c.copy_in_turn.ensures.counted
    (λ more. omega (
      arith,
      more,
      taken,
      rw (first, many) at c.need-needed.ensures.value,
      rw left at c.used.ensures.value,
      rw left at c.used.ensures.within,
      c.requires.size.0,
      c.from-2.ensures,
      c.if-needed-from.false,
    ))
