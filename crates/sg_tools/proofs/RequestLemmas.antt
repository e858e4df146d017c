-- The requests that words make, from the options that clap finds.
use Rattle.std.proofs.Common.{◌≡◌, List, Result, Ok, Err, sym, ap, ◌∙◌}
use Rattle.clap.specs.Words.{Row, Text}
use Rattle.sg_tools.specs.Options.{command_line}
use Rattle.sg_tools.specs.GivenOptions.{IsUnlessOutOfMemory, given_options}
use Rattle.sg_tools.specs.Requests.{request, request_by, request_of}
use Rattle.sg_tools.specs.declared.tool.Tool.{Tool}
use Rattle.sg_tools.specs.declared.tool_name.ToolName.{ToolName}
use Rattle.sg_tools.specs.declared.tool_fault.ToolFault.{ToolFault}
use Rattle.sg_tools.specs.declared.tool_fault.ToolFault.TheVariants.{Usage, Number, Exclusive}
use Rattle.sg_tools.specs.declared.tool_fault.ToolFault.TheVariants.{OutOfMemory}

same_answer : (e r : Result Tool ToolFault) → e ≡ r → IsUnlessOutOfMemory e r
same_answer e (Ok t) same = same
same_answer e (Err Usage) same = same
same_answer e (Err Number) same = same
same_answer e (Err Exclusive) same = same
same_answer e (Err OutOfMemory) same = tt

pub answered : (tool : ToolName) (words : List Text) (rows : List Row) (r : Result Tool ToolFault)
    → given_options (command_line tool) words ≡ Ok rows → r ≡ request_of tool rows
    → IsUnlessOutOfMemory (request tool words) r
unfolding request
answered tool words rows r given same =
    same_answer (request_by tool (given_options (command_line tool) words)) r (ap (request_by tool)
    given ∙ sym same)

pub refused : (tool : ToolName) (words : List Text) (f : ToolFault)
    → IsUnlessOutOfMemory (given_options (command_line tool) words) (Err f)
    → IsUnlessOutOfMemory (request tool words) (Err f)
unfolding request
refused tool words Usage h = ap (request_by tool) h
refused tool words Number h = ap (request_by tool) h
refused tool words Exclusive h = ap (request_by tool) h
refused tool words OutOfMemory h = tt
