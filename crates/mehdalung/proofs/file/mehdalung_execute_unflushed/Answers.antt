use Rattle.std.proofs.Common.{ap, ◌∙◌}
use Rattle.sg_embed.specs.Outcome.{outcome_code}
use Rattle.mehdalung.proofs.file.mehdalung_execute_unflushed.Goals as goal

pub returns-clause-outcome : goal.returns-clause-outcome
returns-clause-outcome c refused =
    c.code.ensures.value ∙ ap outcome_code (c.execute_unflushed-outcome.ensures.outcome refused)
