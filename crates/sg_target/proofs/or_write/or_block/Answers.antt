use Rattle.std.proofs.Common.{◌∙◌, List, ap, ap₂, arith, sym}
use Rattle.std.specs.FinMap.{len}
use Rattle.sg_store.specs.Disk.{Disk, need}
use Rattle.sg_store.specs.Disk.Mapping.{Data}
use Rattle.sg_target.specs.BlockCommands.{or_bytes}
use Rattle.sg_target.specs.Charge.{cost_bounds}
use Rattle.sg_target.specs.BlockByBlock.{block_filled}
use Rattle.sg_target.proofs.OrWriteLemmas.{charged-ok, counts, from-ok, no-error, one-block, twice}
use Rattle.sg_target.proofs.or_write.or_block.Goals as goal

pub prove-unreachable-requires : goal.prove-unreachable-requires
prove-unreachable-requires g c =
    let same = c.read.ensures.disk in
    let disk = g.S.Store.disk c.read.new.self in
    let taken = c.remapping_takes_what_is_needed.ensures.taken disk.contents c.args.lba 1
    (λ index. Data c.set_bits.new.block) in
    no-error c.fill-written.result _ _
    (omega (
      arith,
      taken,
      ap (λ (d : Disk). len d.contents) same,
      ap (λ (d : Disk). need d.contents c.args.lba 1) same,
      ap (λ (d : Disk). d.pool) same,
      c.requires.room,
    ))
    c.fill-written.ensures.space (sym c.is_ok.ensures.value ∙ c.if-prove.true)

pub returns-clause-disk : goal.returns-clause-disk
returns-clause-disk g c =
    from-ok c.fill-written.result (sym c.is_ok.ensures.value ∙ c.if-prove.false) c.fill-written.ensures.ok
    ∙ ap₂ (λ (d : Disk) (b : List _). block_filled d c.args.lba b) c.read.ensures.disk
    (c.set_bits.ensures
    ∙ ap (λ b. or_bytes b c.args.bytes.now) (c.read.ensures.bytes ∙ one-block _ c.args.lba))

pub returns-clause-counted : goal.returns-clause-counted
returns-clause-counted g c =
    λ before over h. twice (cost_bounds g.S.Store.price g.S.Store.least)
    (g.S.Store.disk c.args.store.now) (g.S.Store.disk c.read.new.self) c.args.lba c.args.lba over before _ _ _
    c.read.ensures.disk c.read.ensures.costs
    (charged-ok c.fill-written.result _ _ _ _ _ (sym c.is_ok.ensures.value ∙ c.if-prove.false)
    c.fill-written.ensures.costs) h

pub returns-clause-counts : goal.returns-clause-counts
returns-clause-counts g c =
    counts (cost_bounds g.S.Store.price g.S.Store.least)
    (g.S.Store.disk c.args.store.now) (g.S.Store.disk c.read.new.self) c.args.lba c.args.lba _ _ _
    c.read.ensures.disk c.requires.size.pool
    (g.met.S.Store.price_within (g.S.Store.disk c.args.store.now).contents c.args.lba 1)
    (g.met.S.Store.price_within (g.S.Store.disk c.args.store.now).contents c.args.lba 1)
    c.read.ensures.costs
    (charged-ok c.fill-written.result _ _ _ _ _ (sym c.is_ok.ensures.value ∙ c.if-prove.false)
    c.fill-written.ensures.costs)
