use Rattle.std.proofs.Common.{Some, None, sym, ◌∙◌}
use Rattle.sg_run.proofs.ToolWordLemmas.{name_of}
use Rattle.sg_run.proofs.request.tool.ToolLine.of_operands.Goals as goal

pub returns-in-Some : goal.returns-in-Some
returns-in-Some c =
    name_of c.args.profile c.args.initiator (Some c.in-Some.name) _ _
    (sym c.in-Some.is ∙ c.first_tool.ensures) c.requires.operands

pub returns-in-None : goal.returns-in-None
returns-in-None c =
    name_of c.args.profile c.args.initiator None _ _
    (sym c.in-None.is ∙ c.first_tool.ensures) c.requires.operands
