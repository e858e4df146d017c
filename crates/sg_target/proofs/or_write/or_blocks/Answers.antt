use Rattle.std.proofs.Common.{◌≡◌, ap, arith}
use Rattle.std.specs.List.{flat_map, range_with_len}
use Rattle.sg_store.specs.Disk.Mapping.{Data}
use Rattle.sg_target.specs.BlockCommands.{BlocksOutFields, ored_block}
use Rattle.sg_target.specs.Charge.{cost_bounds}
use Rattle.sg_target.specs.BlockByBlock.{disk_ored}
use Rattle.sg_target.specs.Ranges.{block_ranges}
use Rattle.sg_target.proofs.OrWriteLemmas.{counted-first}
use Rattle.sg_target.proofs.or_write.or_blocks.Goals as goal

pub returns-clause-costs : goal.returns-clause-costs
returns-clause-costs g c =
    let disk = g.S.Store.disk c.args.store.now in
    let out = c.args.blocks.now in
    let left = c.need-needed.ensures.disk in
    let first : c.blocks-2.inside.extent.lba ≡ out.extent.lba =
    ap (λ (b : BlocksOutFields). b.extent.lba) c.blocks-2.view_is in
    let many : c.from.result ≡ out.extent.count =
    omega (arith, c.from.ensures, ap (λ (b : BlocksOutFields). b.extent.count) c.blocks-2.view_is) in
    let taken = c.remapping_takes_what_is_needed.ensures.taken disk.contents out.extent.lba
    out.extent.count (λ index. Data (ored_block disk.contents out index)) in
    counted-first (cost_bounds g.S.Store.price g.S.Store.least) disk
    (g.S.Store.disk c.need-needed.new.self) (disk_ored disk out) out.extent
    (λ m. flat_map (block_ranges m out) (range_with_len 0 out.extent.count))
    c.blocks-2.inside.extent.lba c.from.result
    (g.S.Store.meter c.args.store.now) (g.S.Store.meter c.need-needed.new.self)
    (g.S.Store.meter c.or_in_turn.new.store) c.requires.nothing_counted first many left
    c.need-needed.ensures.costs c.or_in_turn.ensures.counted
    (λ more. omega (
      arith,
      more,
      taken,
      rw (first, many) at c.need-needed.ensures.value,
      rw left at c.used.ensures.value,
      rw left at c.used.ensures.within,
      c.requires.size.0,
      c.from-2.ensures,
      c.if-needed-from.false,
    ))
