use Rattle.std.proofs.Common.{length, ap, ◌∙◌, sym}
use Rattle.sg_pool.proofs.PoolLemmas.{length-filled}
use Rattle.sg_pool.specs.Content.{mapping_for}
use Rattle.sg_pool.proofs.unlinked_pool.UnlinkedPool.fill.Goals as goal

pub invariant_of-self : goal.invariant_of-self
invariant_of-self c =
    let p = c.self.inside in (
      c.self.invariant.0,
      c.self.invariant.1 ∙ sym (ap length c.fill.ensures
          ∙ length-filled p.blocks c.args.slot (mapping_for c.args.content.now c.args.index)),
      c.self.invariant.2,
    )
