use Rattle.std.proofs.Common.{◌∙◌}
use Rattle.sg_run.proofs.ExecuteLemmas.{take-written, tool-outcome}
use Rattle.sg_run.proofs.execute.run_tool.Goals as goal

pub returns-in-Ok-clause-outcome : goal.returns-in-Ok-clause-outcome
returns-in-Ok-clause-outcome g c works =
    let list = take-written _ _ _ _ c.plan-plan.ensures.data_out c.plan-plan.ensures.length in
    let cdb = c.as_slice.ensures.value ∙ c.plan-plan.ensures.cdb in
    tool-outcome _ _ _ _ _ _ _ _ _ c.in-Ok.tool _ _ _ _ _ c.in-Ok.ensures cdb list
    c.plan-plan.ensures.show c.profile.ensures c.in_profile-show.ensures (c.send.ensures.outcome works)
