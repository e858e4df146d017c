use Rattle.std.proofs.Common.{rules, tests, ℕ, ap, sym, ◌∙◌, not, ◌==◌}
use Rattle.std.proofs.lemmas.Bool.Decides.{Decides-eqb}
use Rattle.std.proofs.lemmas.Slice.Eq.{slice_eq-Decides}
use Rattle.std.proofs.lemmas.Iterator.{YieldsList-from_slice, YieldsList-from_zip}
use Rattle.std.proofs.lemmas.Iterator.Search.{position_from_yields_List}
use Rattle.sg_store.specs.Comparison.{first_difference}
use Rattle.sg_store.proofs.ComparisonLemmas.{same-none}
use Rattle.sg_pool.proofs.compare.first_difference.Goals as goal

pub returns-then-eq-clause-value : goal.returns-then-eq-clause-value
returns-then-eq-clause-value c =
    let equal = (slice_eq-Decides Decides-eqb c.args.bytes.now c.args.others.now _ c.eq.ensures).0
    c.if-eq.true in
    sym (same-none c.args.bytes.now) ∙ ap (first_difference c.args.bytes.now) equal

pub returns-clause-value : goal.returns-clause-value
unfolding first_difference
returns-clause-value c =
    position_from_yields_List (λ (pair : ℕ × ℕ). not (pair.0 == pair.1)) c.position.new.self _
    c.position.result c.position.ensures.ran
    (YieldsList-from_zip (YieldsList-from_slice c.args.bytes.now cc)
    (YieldsList-from_slice c.args.others.now cc)) (λ x b q k. search (rules, tests))
