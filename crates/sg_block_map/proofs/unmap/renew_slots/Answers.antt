use Rattle.std.proofs.Common.{sym, subst, ◌∙◌}
use Rattle.sg_block_map.specs.Runs.{AreRuns}
use Rattle.sg_block_map.proofs.StoreLemmas.{all-free, runs-renewed}
use Rattle.sg_block_map.proofs.unmap.renew_slots.Goals as goal

pub renew-requires : goal.renew-requires
renew-requires c =
    let table = c.args.table.now in
    all-free table.records c.args.pool.now table.room c.requires
    (sym c.count.ensures.value ∙ c.if-count-eq0.true)

pub returns-then-count-eq0-clause-runs : goal.returns-then-count-eq0-clause-runs
returns-then-count-eq0-clause-runs c =
    let table = c.args.table.now in
    subst (λ slots. AreRuns table.records slots table.room) (sym c.renew.ensures)
    (runs-renewed table.records c.args.pool.now table.room c.requires
    (sym c.count.ensures.value ∙ c.if-count-eq0.true))
