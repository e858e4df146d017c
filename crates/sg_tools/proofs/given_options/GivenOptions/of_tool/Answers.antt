use Rattle.std.proofs.Common.{◌≡◌, ap, ◌∙◌, true, refl}
use Rattle.clap.proofs.OnLiterals.{clap_on_literals}
use Rattle.clap.specs.Words.{is_simple_and_free}
use Rattle.sg_tools.specs.Options.{command_line, with_rules}
use Rattle.sg_tools.specs.declared.tool_name.ToolName.{ToolName}
use Rattle.sg_tools.specs.declared.tool_name.ToolName.TheVariants.{SgInq, SgVpd, SgModes, SgUnmap}
use Rattle.sg_tools.specs.declared.tool_name.ToolName.TheVariants.{SgGetLbaStatus, SgPersist}
use Rattle.sg_tools.specs.declared.tool_name.ToolName.TheVariants.{SgTurs, SgRequests, SgLuns}
use Rattle.sg_tools.specs.declared.tool_name.ToolName.TheVariants.{SgOpcodes, SgLogs, SgReadcap}
use Rattle.sg_tools.specs.declared.tool_name.ToolName.TheVariants.{SgSync, SgVerify}
use Rattle.sg_tools.specs.declared.tool_name.ToolName.TheVariants.{SgCompareAndWrite, SgWriteSame}
use Rattle.sg_tools.specs.declared.tool_name.ToolName.TheVariants.{SgStart}
use Rattle.sg_tools.proofs.given_options.GivenOptions.of_tool.Goals as goal

is_free : (tool : ToolName) → is_simple_and_free (command_line tool) ≡ true
unfolding clap_on_literals with_rules
is_free SgInq = refl
is_free SgVpd = refl
is_free SgModes = refl
is_free SgUnmap = refl
is_free SgGetLbaStatus = refl
is_free SgPersist = refl
is_free SgTurs = refl
is_free SgRequests = refl
is_free SgLuns = refl
is_free SgOpcodes = refl
is_free SgLogs = refl
is_free SgReadcap = refl
is_free SgSync = refl
is_free SgVerify = refl
is_free SgCompareAndWrite = refl
is_free SgWriteSame = refl
is_free SgStart = refl

pub of_words-requires : goal.of_words-requires
of_words-requires c = ap is_simple_and_free c.in-Ok.ensures ∙ is_free c.args.tool
