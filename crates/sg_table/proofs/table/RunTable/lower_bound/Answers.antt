use Rattle.std.proofs.Common.{length, ap, arith}
use Rattle.sg_table.specs.Leaves.{joined}
use Rattle.sg_table.specs.Table.{Table}
use Rattle.sg_table.proofs.HalvingLemmas.{probes-le}
use Rattle.sg_table.proofs.table.RunTable.lower_bound.Goals as goal

pub overflow_add-self : goal.overflow_add-self
overflow_add-self c =
    let bound = probes-le _ (length (joined c.self.inside.leaves.leaves))
    c.lower_bound-found.ensures.search.most_probes (omega (arith, c.self.invariant.1, c.self.invariant.3)) in
    omega (arith, bound, c.requires.headroom, ap (λ (t : Table). t.probes) c.self.view_is)

pub returns-clause-probe_count : goal.returns-clause-probe_count
returns-clause-probe_count c =
    let bound = probes-le _ (length (joined c.self.inside.leaves.leaves))
    c.lower_bound-found.ensures.search.most_probes (omega (arith, c.self.invariant.1, c.self.invariant.3)) in
    omega (arith, bound, ap (λ (t : Table). t.probes) c.self.view_is)
