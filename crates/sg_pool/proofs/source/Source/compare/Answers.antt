use Rattle.std.proofs.Common.{sym, ◌∙◌, ap, length}
use Rattle.sg_store.proofs.ComparisonLemmas.{none-same}
use Rattle.sg_pool.proofs.source.Source.compare.Goals as goal

pub returns-in-None-clause-same : goal.returns-in-None-clause-same
returns-in-None-clause-same c =
    let is = c.block.ensures in
    none-same c.args.block.now c.block.result.now
    (c.requires.byte_count ∙ sym c.requires.whole ∙ ap length (sym is))
    (sym c.first_difference.ensures.value ∙ c.in-None.is) ∙ is
